-- The meaning of a program on the way: which loops it opens and where it stands there, and where it
-- stands after some turns of one. A loop that isn't opened is gone through.
use Rattle.std.specs.Prelude.{◌≡◌, ◌+◌, ⊤, ℕ, ℤ, zero, suc, pos, false, if◌then◌else◌, List}
use Rattle.std.specs.Prelude.{[], ◌∷◌, ◌++◌, Option, Some, None, Result, Ok, Err, unwrap_or}
use Rattle.std.specs.Ordering.{int_eq}
use Rattle.ast.specs.Exact.{is_true, trips}
use Rattle.ast.specs.Meaning.{Run, exec, exec_block, grown, is_last_stop, looked_up}
use Rattle.ast.specs.Meaning.{start, step_value, then_do, turns, value, written}
use Rattle.ast.specs.Program.{ProgramTree}
use Rattle.ast.specs.Store.{StoreOf}
use Rattle.ast.specs.Symbols.{Symbol}
use Rattle.ast.specs.Tree.{DoHead, Node, plain, loop, choose, Block}
use Rattle.ast.specs.Tree.{no_nodes, then_node, Arms, no_arms, then_arm}
use Rattle.ast.specs.declared.fault.Fault.{Fault}
use Rattle.ast.specs.declared.fault.End.{End}
use Rattle.ast.specs.declared.fault.End.TheVariants.{Done}
use Rattle.loop_tree.specs.Loops.{Loop}
use Rattle.codegen.specs.Program.{Planned, opened_by}

-- Where the meaning opens a loop: the loop's number, the first value of its variable and the trips
-- that it is to make; the store, the records of the input that are left, and the output so far.
pub record Opening : Type 0 where
  pub number : ℕ
  pub first : ℤ
  pub trips : ℕ
  pub store : StoreOf
  pub input : List (List ℕ)
  pub output : List ℕ

-- those of what follows, which is done only where nothing has ended the run
abbrev pub going_openings : End → Run → (Run → List Opening) → List Opening
going_openings Done run next = next run
going_openings _ run next = []

abbrev pub then_openings : Run → (Run → List Opening) → List Opening
then_openings run next = going_openings run.end run next

abbrev pub given_openings : {X : Type 0} → Result X Fault → (X → List Opening) → List Opening
given_openings (Ok x) next = next x
given_openings (Err f) next = []

-- those in n turns, one after another
abbrev pub turns_openings : (Run → List Opening) → (Run → Run) → ℕ → Run → List Opening
turns_openings inner turn zero run = []
turns_openings inner turn (suc n) run =
    inner run ++ then_openings (turn run) (λ after. turns_openings inner turn n after)

-- one turn: the range, and then the variable grows
abbrev pub turn : ℕ → List ℕ → (Run → Run) → ℤ → Run → Run
turn line name range step run = then_do (range run) (λ after. grown line name step after)

-- by a loop's number, where it is opened, and its parameters; the step of one
-- that is opened isn't 0
abbrev pub loop_openings : Option ℕ → ℕ → List ℕ → (Run → List Opening) → (Run → Run)
    → ℤ → ℤ → ℤ → Run → List Opening
loop_openings (Some n) line name inner range m1 m2 m3 run =
    record {
      number = n;
      first = m1;
      trips = trips m1 m2 m3;
      store = run.store;
      input = run.input;
      output = run.output;
    } ∷ []
loop_openings None line name inner range m1 m2 m3 run =
    if int_eq m3 (pos 0) then []
    else turns_openings inner (turn line name range m3) (trips m1 m2 m3) (written run name 0 m1)

-- its parameters are evaluated once, in order
abbrev pub head_openings : List Symbol → Option ℕ → ℕ → DoHead → (Run → List Opening)
    → (Run → Run) → Run → List Opening
head_openings symbols number line h inner range run =
    given_openings (value (looked_up symbols run.store) h.first) (λ m1.
    given_openings (value (looked_up symbols run.store) h.last) (λ m2.
    given_openings (step_value (looked_up symbols run.store) h.step) (λ m3.
    loop_openings number line h.variable.name inner range m1 m2 m3 run)))

-- opens: the number of the loop that a DO opens
module _ (symbols : List Symbol) (opens : ℕ → Option ℕ) where
  -- The openings that a statement makes, in order, from where the run stands.
  abbrev mutual
    pub node_openings : Node → Run → List Opening
    node_openings (plain s) run = []
    node_openings (loop line h b) run =
        head_openings symbols (opens h.variable.id) line h (λ before. block_openings b before)
        (λ before. exec_block symbols b before) run
    node_openings (choose a) run = arms_openings a run

    pub block_openings : Block → Run → List Opening
    block_openings no_nodes run = []
    block_openings (then_node n b) run =
        if is_last_stop n b then []
        else node_openings n run
        ++ then_openings (exec symbols n run) (λ after. block_openings b after)

    pub arms_openings : Arms → Run → List Opening
    arms_openings no_arms run = []
    arms_openings (then_arm line None b more) run = block_openings b run
    arms_openings (then_arm line (Some c) b more) run =
        given_openings (value (looked_up symbols run.store) c)
        (λ v. if is_true v then block_openings b run else arms_openings more run)

-- the openings of a whole program on an input; xs: the loops that are opened, with their plans
abbrev pub openings : ProgramTree → List Planned → List ℕ → List Opening
openings program xs input =
    block_openings program.symbols (opened_by xs) program.block (start input)

-- ---- turns of a loop that is opened

-- where the run stands when the variable has its first value
abbrev pub before_turns : Loop → Opening → Run
before_turns l o =
    written (record { store = o.store; input = o.input; output = o.output; end = Done })
    l.head.variable.name 0 o.first

-- one turn of a loop that is opened, whose step is constant
abbrev pub turn_of : List Symbol → Loop → Run → Run
turn_of symbols l run =
    turn l.line l.head.variable.name (λ before. exec_block symbols l.body before)
    (unwrap_or l.step (pos 0)) run

-- where the run stands after k turns
abbrev pub after_turns : List Symbol → Loop → Opening → ℕ → Run
after_turns symbols l o k = turns (λ before. turn_of symbols l before) k (before_turns l o)

-- the ranges of k turns are gone through; behind the last of them the variable may still leave the
-- 64-bit integers
abbrev pub AreGoneThrough : List Symbol → Loop → Opening → ℕ → Type 0
AreGoneThrough symbols l o zero = ⊤
AreGoneThrough symbols l o (suc k) =
    (then_do (after_turns symbols l o k) (λ before. exec_block symbols l.body before)).end ≡ Done

-- ---- what turns are worth

-- Wherever the turns of a DO are cut in two, they make up what it means: it does the first k of
-- them, and then, unless these have ended the run, the other n.
abbrev pub AreItsTurns : Type 0
AreItsTurns =
    (symbols : List Symbol) (line : ℕ) (h : DoHead) (b : Block) (run : Run) (m1 m2 m3 : ℤ) (k n : ℕ)
    → run.end ≡ Done
    → value (looked_up symbols run.store) h.first ≡ Ok m1
    → value (looked_up symbols run.store) h.last ≡ Ok m2
    → step_value (looked_up symbols run.store) h.step ≡ Ok m3 → int_eq m3 (pos 0) ≡ false
    → k + n ≡ trips m1 m2 m3
    → exec symbols (loop line h b) run
    ≡ then_do (turns (turn line h.variable.name (λ before. exec_block symbols b before) m3) k
    (written run h.variable.name 0 m1))
    (λ after. turns (turn line h.variable.name (λ before. exec_block symbols b before) m3) n after)
