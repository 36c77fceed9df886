use Rattle.std.proofs.Common.{◌≡◌, ◌∙◌, None, Some, refl, sym, ap}
use Rattle.std.specs.Prelude.{option_map}
use Rattle.ast.proofs.Calls.{not_some}
use Rattle.machine.specs.FrameView as frames
use Rattle.machine.specs.State.{the_main, iteration}
use Rattle.activities.specs.Activities.{kept_in, who}
use Rattle.activities.specs.Parts.{held_of}
use Rattle.activities.specs.declared.holding.Holder.{Holder}
use Rattle.activities.specs.declared.holding.Holder.TheVariants as holder
use Rattle.activities.proofs.Shares.{held_is}
use Rattle.activities.proofs.Labour.{made_so_many, no_more, none_of_none, main_stands, stood_main, with_main_frame}
use Rattle.activities.proofs.holding.Activities.labour.Goals as goal

pub labour_iteration-requires-clause-holds : goal.labour_iteration-requires-clause-holds
labour_iteration-requires-clause-holds c =
    let some : c.index.result.now ≡ Some c.in-Some-Iteration.field-0 = c.in-Some-Iteration.is in
    let one : Some c.in-Some-Iteration.field-0 ≡ Some (holder.Iteration c.in-Some-Iteration.number c.in-Some-Iteration.place) = ap (λ (h : Holder). Some h) (rw some at c.in-Some-Iteration.field-0-is) in
    let h : held_of (kept_in c.args.self.now).held c.args.q ≡ Some (iteration c.in-Some-Iteration.number) = held_is c.args.self.now.held.items c.args.q c.index.result.now c.index.result.now c.requires.processor c.index.ensures ∙ ap (λ o. option_map who o) (some ∙ one) in
    h

pub returns-in-Some-Main-clause-made : goal.returns-in-Some-Main-clause-made
returns-in-Some-Main-clause-made c =
    let some : c.index.result.now ≡ Some c.in-Some-Main.field-0 = c.in-Some-Main.is in
    let one : Some c.in-Some-Main.field-0 ≡ Some (holder.Main) = ap (λ (h : Holder). Some h) (rw some at c.in-Some-Main.field-0-is) in
    let h : held_of (kept_in c.args.self.now).held c.args.q ≡ Some the_main = held_is c.args.self.now.held.items c.args.q c.index.result.now c.index.result.now c.requires.processor c.index.ensures ∙ ap (λ o. option_map who o) (some ∙ one) in
    let old = c.args.self.now in
    let going : old.shared.ended ≡ None = not_some old.shared.ended (sym c.is_some.ensures ∙ c.if-is_some.false) in
    made_so_many the_main c.args.q c.args.n c.local.result.made (kept_in old).main (frames.frame_of c.local.new.frame) old (with_main_frame c.local.new.frame old) (stood_main c.args.q old c.requires.stand going h) c.local.ensures refl

pub returns-in-Some-Main-clause-stand : goal.returns-in-Some-Main-clause-stand
returns-in-Some-Main-clause-stand c = main_stands c.local.new.frame c.args.self.now c.requires.stand

pub returns-in-Some-Main-clause-all : goal.returns-in-Some-Main-clause-all
returns-in-Some-Main-clause-all c =
    let some : c.index.result.now ≡ Some c.in-Some-Main.field-0 = c.in-Some-Main.is in
    let one : Some c.in-Some-Main.field-0 ≡ Some (holder.Main) = ap (λ (h : Holder). Some h) (rw some at c.in-Some-Main.field-0-is) in
    let h : held_of (kept_in c.args.self.now).held c.args.q ≡ Some the_main = held_is c.args.self.now.held.items c.args.q c.index.result.now c.index.result.now c.requires.processor c.index.ensures ∙ ap (λ o. option_map who o) (some ∙ one) in
    let old = c.args.self.now in
    let going : old.shared.ended ≡ None = not_some old.shared.ended (sym c.is_some.ensures ∙ c.if-is_some.false) in
    no_more the_main c.args.q c.args.n c.local.result.made (kept_in old).main (frames.frame_of c.local.new.frame) old (with_main_frame c.local.new.frame old) (stood_main c.args.q old c.requires.stand going h) c.local.ensures refl

pub returns-in-None-clause-all : goal.returns-in-None-clause-all
returns-in-None-clause-all c few =
    let none : held_of (kept_in c.args.self.now).held c.args.q ≡ None = held_is c.args.self.now.held.items c.args.q c.index.result.now c.index.result.now c.requires.processor c.index.ensures ∙ ap (λ o. option_map who o) c.in-None.is in
    none_of_none c.args.q c.args.self.now none
