-- Laws of the items of a PRINT.
use Rattle.std.proofs.Common.{◌≡◌, ◌∙◌, ◌+◌, ◌<◌, ℕ, suc, subst, Bool, true, false, List, [], ◌∷◌, ◌++◌, Result, Ok, Err, refl, sym, ap, append_assoc, is_err, length, drop, get_or, map, arith, add-one, drop-cons}
use Rattle.std.proofs.lemmas.List.{append-nil, take_all}
use Rattle.std.specs.Prelude.{ℤ, IsErrAnd}
use Rattle.ast.specs.Meaning.{LookUp, Run, exec_plain, given, looked_up, printed, value}
use Rattle.ast.specs.Record.{Keeps, Printed, all_shown, items_printed, number, record_of, rest_printed, shown, text}
use Rattle.ast.specs.Results.{◌>>=◌}
use Rattle.ast.specs.Symbols.{Symbol}
use Rattle.ast.specs.Tree.{PrintItem, value_item, text_item, print}
use Rattle.ast.specs.View.{item as item_of}
use Rattle.ast.specs.declared.statement.Item.{Item}
use Rattle.ast.specs.declared.fault.End.{End}
use Rattle.ast.specs.declared.fault.End.TheVariants.{Done, Fault as Faulted}
use Rattle.ast.specs.declared.fault.Fault.{Fault}
use Rattle.ast.proofs.Records.{shown_on, nothing_shown}
use Rattle.tree_run.specs.Placed.{PlacedItems}
use Rattle.tree_run.specs.Printing.{item_onto, items_onto, record_onto}
use Rattle.tree_run.specs.Runs.{Gives, Reaches, closed}
use Rattle.tree_run.specs.declared.stop.Stop.{Stop}
use Rattle.tree_run.specs.declared.stop.Stop.TheVariants.{Memory, Fault as Fails, Stopped as Stops}
use Rattle.tree_run.proofs.Evaluating.{failed}

pub placed_first : (ss : List Symbol) (i : PrintItem) (is : List PrintItem) → PlacedItems ss (i ∷ is) → PlacedItems ss (i ∷ [])
placed_first ss (value_item e) is h = (h.0, tt)
placed_first ss (text_item t) is h = tt

pub placed_rest : (ss : List Symbol) (i : PrintItem) (is : List PrintItem) → PlacedItems ss (i ∷ is) → PlacedItems ss is
placed_rest ss (value_item e) is h = h.1
placed_rest ss (text_item t) is h = h

-- the next item, and the others
pub next_item : (items : List Item) (i : ℕ) (item : Item) → i < length items → item ≡ get_or items i item → map item_of (drop i items) ≡ item_of item ∷ map item_of (drop (i + 1) items)
next_item items i item h is =
    ap (λ (l : List Item). map item_of l) (drop-cons items i item h)
    ∙ ap (λ (x : Item). item_of x ∷ map item_of (drop (suc i) items)) (sym is)
    ∙ ap (λ (n : ℕ). item_of item ∷ map item_of (drop n items)) (sym (add-one i))

-- after an item, the others go on
pub goes_on : (old new : List ℕ) (first : Bool) (item : PrintItem) (items : List PrintItem) (look : LookUp) → item_onto old first item look ≡ Ok new → items_onto old first (item ∷ items) look ≡ items_onto new false items look
goes_on old new first item items look h = ap (λ (r : Result (List ℕ) Fault). r >>= λ longer. items_onto longer false items look) h

-- a fault of an item is one of all of them
pub fails_on : (r a : Result (Unit {0}) Stop) (s : Stop) (line : ℕ) (new : List ℕ) (v : Result (List ℕ) Fault) (next : List ℕ → Result (List ℕ) Fault) (whole : Result (List ℕ) Fault) → (v >>= next) ≡ whole → a ≡ Err s → IsErrAnd r (λ e. e ≡ s) → Gives a line new v → Gives r line new whole
fails_on r a s line new v next whole w given failing h =
    subst (λ (t : Result (Unit {0}) Stop). Gives t line new whole) (sym (failed r s failing)) (by s (subst (λ (t : Result (Unit {0}) Stop). Gives t line new v) given h))
  where
    by : (t : Stop) → Gives (Err t) line new v → Gives (Err t) line new whole
    by (Memory e) g = tt
    by (Fails f l) g = (sym w ∙ ap (λ (u : Result (List ℕ) Fault). u >>= next) g.0, g.1)
    by (Stops l) g = absurd g

pub keeps_all : (l : List ℕ) → Keeps l l
keeps_all l = (omega arith, take_all (length l) l (omega arith))

-- one item, and then the others
then_more : (r : Result (List Printed) Fault) (output : List ℕ) (first : Bool) (p : Printed) → (r >>= λ ps. Ok ((output ++ shown first p) ++ rest_printed ps)) ≡ ((r >>= λ ps. Ok (p ∷ ps)) >>= λ ps. Ok (output ++ all_shown first ps))
then_more (Ok ps) output first p = ap Ok (append_assoc output (shown first p) (rest_printed ps) ∙ ap (λ (bytes : List ℕ). output ++ bytes) (sym (shown_on first p ps)))
then_more (Err f) output first p = refl

valued : (v : Result ℤ Fault) (r : Result (List Printed) Fault) (output : List ℕ) (first : Bool) (on : List ℕ → Result (List ℕ) Fault) → ((longer : List ℕ) → on longer ≡ (r >>= λ ps. Ok (longer ++ rest_printed ps))) → ((v >>= λ n. Ok (output ++ shown first (number n))) >>= on) ≡ ((v >>= λ n. r >>= λ ps. Ok (number n ∷ ps)) >>= λ ps. Ok (output ++ all_shown first ps))
valued (Ok n) r output first on h = h (output ++ shown first (number n)) ∙ then_more r output first (number n)
valued (Err f) r output first on h = refl

items_on : (output : List ℕ) (first : Bool) (items : List PrintItem) (look : LookUp) → items_onto output first items look ≡ (printed look items >>= λ ps. Ok (output ++ all_shown first ps))
items_on output first [] look = ap Ok (sym (append-nil output) ∙ ap (λ (bytes : List ℕ). output ++ bytes) (sym (nothing_shown first)))
items_on output first (value_item e ∷ items) look = valued (value look e) (printed look items) output first (λ longer. items_onto longer false items look) (λ longer. items_on longer false items look)
items_on output first (text_item t ∷ items) look = items_on (output ++ shown first (text t)) false items look ∙ then_more (printed look items) output first (text t)

recorded : (r : Result (List Printed) Fault) (output : List ℕ) → ((r >>= λ ps. Ok ((output ++ 32 ∷ []) ++ items_printed ps)) >>= λ longer. Ok (longer ++ 10 ∷ [])) ≡ (r >>= λ ps. Ok (output ++ record_of ps))
recorded (Ok ps) output = ap Ok (append_assoc (output ++ 32 ∷ []) (items_printed ps) (10 ∷ []) ∙ append_assoc output (32 ∷ []) (items_printed ps ++ 10 ∷ []))
recorded (Err f) output = refl

-- an output with a record is the output and the record of what the items print
record_on : (output : List ℕ) (items : List PrintItem) (look : LookUp) → record_onto output items look ≡ (printed look items >>= λ ps. Ok (output ++ record_of ps))
record_on output items look = ap (λ (r : Result (List ℕ) Fault). r >>= λ longer. Ok (longer ++ 10 ∷ [])) (items_on (output ++ 32 ∷ []) true items look) ∙ recorded (printed look items) output

goes_out : (r : Result (List Printed) Fault) (line : ℕ) (run : Run) (longer : List ℕ) → (r >>= λ ps. Ok (run.output ++ record_of ps)) ≡ Ok longer → record run { output = longer } ≡ given r line run (λ ps. record run { output = run.output ++ record_of ps })
goes_out (Ok ps) line run longer e = let h : longer ≡ run.output ++ record_of ps = cc in ap (λ (o : List ℕ). record run { output = o }) h
goes_out (Err f) line run longer e = cc

stops : (r : Result (List Printed) Fault) (line : ℕ) (run : Run) (f : Fault) → (r >>= λ ps. Ok (run.output ++ record_of ps)) ≡ Err f → record run { end = Faulted f line } ≡ given r line run (λ ps. record run { output = run.output ++ record_of ps })
stops (Ok ps) line run f e = cc
stops (Err g) line run f e = let h : f ≡ g = cc in ap (λ (x : Fault). record run { end = Faulted x line }) h

-- What a PRINT leaves, by what its record left: the record, or the old output at a fault.
pub settled : (ss : List Symbol) (r : Result (Unit {0}) Stop) (run : Run) (new left : List ℕ) (items : List PrintItem) (line : ℕ) → run.end ≡ Done → Gives r line new (record_onto run.output items (looked_up ss run.store)) → (is_err r ≡ true → left ≡ run.output) → (is_err r ≡ false → left ≡ new) → Reaches r (λ e. record run { output = left; end = e }) (exec_plain ss line (print items) run)
settled ss (Ok done) run new left items line d h a b =
    ap (λ (e : End). record run { output = left; end = e }) (sym d) ∙ ap (λ (o : List ℕ). record run { output = o }) (b refl)
    ∙ goes_out (printed (looked_up ss run.store) items) line run new (sym (record_on run.output items (looked_up ss run.store)) ∙ h)
settled ss (Err (Memory e)) run new left items line d h a b = tt
settled ss (Err (Fails f l)) run new left items line d h a b =
    ap (λ (o : List ℕ). closed (record run { output = o; end = Faulted f l })) (a refl)
    ∙ ap (λ (n : ℕ). closed (record run { end = Faulted f n })) h.1
    ∙ ap closed (stops (printed (looked_up ss run.store) items) line run f (sym (record_on run.output items (looked_up ss run.store)) ∙ h.0))
settled ss (Err (Stops l)) run new left items line d h a b = absurd h
