-- What the code's references and verdicts stand for.
use Rattle.std.specs.Prelude.{◌≡◌, IfSome, map}
use Rattle.dependence.specs.declared.recent.Recent.{Recent}
use Rattle.loop_tree.specs.Loops.{Loop}
use Rattle.loop_tree.specs.View.{occurrence}
use Rattle.plan_check.specs.Judging as spec
use Rattle.plan_check.specs.declared.entry.Entry.{Entry}
use Rattle.plan_check.specs.declared.judge.Earlier.{Earlier}
use Rattle.plan_check.specs.declared.judge.Verdict.{Verdict}
use Rattle.subscripts.specs.View.{form_in}

abbrev pub entry : Entry → spec.Entry
entry e = record {
  occurrence = occurrence e.occurrence.now;
  near = e.note.now.near.items;
  free = e.note.now.free.items;
  forms = map form_in e.forms.items;
}

abbrev pub verdict : Verdict → spec.Verdict
verdict v = record { ahead = v.ahead; held = v.held; claims = v.claims }

-- what was found of a claim is so of each reference with these forms
abbrev pub Tells : Loop → spec.Entry → Earlier → Type 0
Tells l x earlier =
    (y : spec.Entry) → map form_in earlier.forms.now ≡ y.forms
    → earlier.is_true ≡ spec.is_given l x y earlier.claim

-- so are the newest of what was found
pub record AllTell (l : Loop) (x : spec.Entry) (recent : Recent Earlier) : Type 0 where
  pub newest : IfSome recent.newest (Tells l x)
  pub older : IfSome recent.older (Tells l x)
