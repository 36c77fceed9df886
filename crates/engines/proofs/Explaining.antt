-- Lines that are told one after another, of which some wait.
use Rattle.std.proofs.Common.{◌≡◌, ◌⊎◌, ◌∙◌, inl, inr, ℕ, ◌+◌, ◌<◌, List, [], ◌∷◌, ◌++◌, length, Option, Result, Ok, Err, take, drop, get_or, refl, sym, ap, subst, append_assoc, append-nil, suc}
use Rattle.std.proofs.KnownBytes.{Appends-nil, Appends-trans}
use Rattle.std.proofs.Math.Seq.{drop-cons}
use Rattle.std.proofs.lemmas.List.{take-append-drop}
use Rattle.std.specs.Prelude.{IfErr, IsErrAnd, OnOk}
use Rattle.codegen.specs.declared.reports.LoopReport.{LoopReport}
use Rattle.record_writer.specs.Written.{AppendsPart, Begins, FallsShort}
use Rattle.command_output.specs.declared.fault.EngineFault.{EngineFault}
use Rattle.command_output.specs.declared.fault.EngineFault.TheVariants.{Source, Input, Schedule, Writing, Memory, OutOfRange, NotStarted, Stuck}
use Rattle.command_output.specs.declared.outcomes.Outcome.{Outcome}
use Rattle.engines.specs.Explained.{BreaksEach, BreaksLoop, BreaksOff, BreaksSome, Broke, Grows, GrowsSome, IsFront, StreamsLoops, TellsEach, TellsLoop}
use Rattle.engines.specs.Listing.{Lines, LinesWhy, ListingOf}
use Rattle.engines.proofs.Listings.{listed_more}

-- ---- what is told grows

pub grows_on : (o m n : Option (List ℕ)) (p r q a b : List ℕ) → Grows o p m r a → Grows m r n q b → Grows o p n q (a ++ b)
grows_on o m n p r q a b g h = record {
  got = g.got ++ h.got;
  grown = Appends-trans o m n g.got h.got g.grown h.grown;
  is = sym (append_assoc p a b) ∙ ap (λ (t : List ℕ). t ++ b) g.is ∙ append_assoc g.got r b ∙ ap (λ (t : List ℕ). g.got ++ t) h.is ∙ sym (append_assoc g.got h.got q);
}

-- ---- a fault on the way

pub streams_fault : (r : Result Outcome EngineFault) (fault : EngineFault) (reports : List LoopReport) (old new : Option (List ℕ)) → IsErrAnd r (λ e. e ≡ fault)
    → StreamsLoops reports old new (Err fault) → StreamsLoops reports old new r
streams_fault (Ok outcome) fault reports old new is holds = absurd is
streams_fault (Err e) fault reports old new is holds = subst (λ (f : EngineFault). StreamsLoops reports old new (Err f)) (sym is) holds

-- of what waited before and a text, where the first part of the text was told
whole_on : (p r a b got : List ℕ) (rest : List ℕ) (front : List ℕ) → p ++ a ≡ front ++ r → r ++ b ≡ got ++ rest → p ++ (a ++ b) ≡ (front ++ got) ++ rest
whole_on p r a b got rest front is so =
    sym (append_assoc p a b) ∙ ap (λ (t : List ℕ). t ++ b) is ∙ append_assoc front r b ∙ ap (λ (t : List ℕ). front ++ t) so ∙ sym (append_assoc front got rest)

pub breaks_on : (o m n : Option (List ℕ)) (p r a b : List ℕ) (f : EngineFault) → Grows o p m r a → BreaksOff m r n b f → BreaksOff o p n (a ++ b) f
breaks_on o m n p r a b (Writing e) g h = record {
  got = g.got ++ h.got;
  grown = Appends-trans o m n g.got h.got g.grown h.grown;
  so = (h.so.0, h.so.1, whole_on p r a b h.got (h.so.0 ∷ h.so.1) g.got g.is h.so.2);
}
breaks_on o m n p r a b Memory g h = record {
  got = g.got ++ h.got;
  grown = Appends-trans o m n g.got h.got g.grown h.grown;
  so = (h.so.0, whole_on p r a b h.got h.so.0 g.got g.is h.so.1);
}
breaks_on o m n p r a b (Source e) g h = absurd h
breaks_on o m n p r a b (Input e) g h = absurd h
breaks_on o m n p r a b (Schedule e) g h = absurd h
breaks_on o m n p r a b OutOfRange g h = absurd h
breaks_on o m n p r a b NotStarted g h = absurd h
breaks_on o m n p r a b Stuck g h = absurd h

-- what goes on behind a fault isn't told
longer : (p a c got rest : List ℕ) → p ++ a ≡ got ++ rest → p ++ (a ++ c) ≡ got ++ (rest ++ c)
longer p a c got rest so = sym (append_assoc p a c) ∙ ap (λ (t : List ℕ). t ++ c) so ∙ append_assoc got rest c

pub breaks_more : (o n : Option (List ℕ)) (p a c : List ℕ) (f : EngineFault) → BreaksOff o p n a f → BreaksOff o p n (a ++ c) f
breaks_more o n p a c (Writing e) h = record { got = h.got; grown = h.grown; so = (h.so.0, h.so.1 ++ c, longer p a c h.got (h.so.0 ∷ h.so.1) h.so.2) }
breaks_more o n p a c Memory h = record { got = h.got; grown = h.grown; so = (h.so.0 ++ c, longer p a c h.got h.so.0 h.so.1) }
breaks_more o n p a c (Source e) h = absurd h
breaks_more o n p a c (Input e) h = absurd h
breaks_more o n p a c (Schedule e) h = absurd h
breaks_more o n p a c OutOfRange h = absurd h
breaks_more o n p a c NotStarted h = absurd h
breaks_more o n p a c Stuck h = absurd h

-- not all of what waited was written
pub falls_short : (o n : Option (List ℕ)) (p : List ℕ) → AppendsPart o n p → Broke FallsShort o p n []
falls_short o n p h = record {
  got = take h.0 p;
  grown = h.2;
  so = (get_or p h.0 0, drop (suc h.0) p, append-nil p ∙ sym (take-append-drop h.0 p) ∙ ap (λ (t : List ℕ). take h.0 p ++ t) (drop-cons p h.0 0 h.1));
}

-- ---- some text

pub some_on : (o m n : Option (List ℕ)) (p r q : List ℕ) → GrowsSome o p m r → GrowsSome m r n q → GrowsSome o p n q
some_on o m n p r q g h = (g.0 ++ h.0, grows_on o m n p r q g.0 h.0 g.1 h.1)

pub some_breaks : (o m n : Option (List ℕ)) (p r : List ℕ) (f : EngineFault) → GrowsSome o p m r → BreaksSome m r n f → BreaksSome o p n f
some_breaks o m n p r f g h = (g.0 ++ h.0, breaks_on o m n p r g.0 h.0 f g.1 h.1)

-- ---- the lines of a loop

pub loop_told : (k : ℕ) (r : LoopReport) (lines : List ℕ) (o m n : Option (List ℕ)) (p w q : List ℕ) → Lines k r lines → Grows o p m w lines → GrowsSome m w n q → TellsLoop k r o p n q
loop_told k r lines o m n p w q are g h = (lines ++ h.0, (lines, h.0, are, refl), grows_on o m n p w q lines h.0 g h.1)

pub loop_breaks_first : (k : ℕ) (r : LoopReport) (lines : List ℕ) (o n : Option (List ℕ)) (p : List ℕ) (f : EngineFault) → Lines k r lines → BreaksOff o p n lines f → BreaksLoop k r o p n f
loop_breaks_first k r lines o n p f are h = (lines ++ [], inr (lines, [], are, refl), breaks_more o n p lines [] f h)

pub loop_breaks : (k : ℕ) (r : LoopReport) (lines : List ℕ) (o m n : Option (List ℕ)) (p w : List ℕ) (f : EngineFault) → Lines k r lines → Grows o p m w lines → BreaksSome m w n f → BreaksLoop k r o p n f
loop_breaks k r lines o m n p w f are g h = (lines ++ h.0, inr (lines, h.0, are, refl), breaks_on o m n p w lines h.0 f g h.1)

-- ---- the lines of each loop

-- what holds before each loop: those before it were told
pub record Telling (rs : List LoopReport) (k : ℕ) (o : Option (List ℕ)) (p : List ℕ) (n : Option (List ℕ)) (q : List ℕ) : Type 0 where
  pub text : List ℕ
  pub listed : ListingOf LinesWhy 1 (take k rs) text
  pub grown : Grows o p n q text

-- ---- results

pub on_ok : {A B : Type 0} (r : Result A B) (P Q : Type 0) → (P → Q) → OnOk r P → OnOk r Q
on_ok (Ok a) P Q f h = f h
on_ok (Err b) P Q f h = h

pub if_err : {A B : Type 0} (r : Result A B) (P Q : B → Type 0) → ((b : B) → P b → Q b) → IfErr r P → IfErr r Q
if_err (Ok a) P Q f h = h
if_err (Err b) P Q f h = f b h

-- some text, and behind it more
pub ok_behind : {A B : Type 0} (s : Result A B) (o m n : Option (List ℕ)) (p r q : List ℕ) → GrowsSome o p m r → OnOk s (GrowsSome m r n q) → OnOk s (GrowsSome o p n q)
ok_behind s o m n p r q g h = on_ok s (GrowsSome m r n q) (GrowsSome o p n q) (λ k. some_on o m n p r q g k) h

pub err_behind : {A : Type 0} (s : Result A EngineFault) (o m n : Option (List ℕ)) (p r : List ℕ) → GrowsSome o p m r → IfErr s (BreaksSome m r n) → IfErr s (BreaksSome o p n)
err_behind s o m n p r g h = if_err s (BreaksSome m r n) (BreaksSome o p n) (λ f k. some_breaks o m n p r f g k) h

-- this text is some text
pub ok_some : {A B : Type 0} (s : Result A B) (m n : Option (List ℕ)) (r q a : List ℕ) → OnOk s (Grows m r n q a) → OnOk s (GrowsSome m r n q)
ok_some s m n r q a h = on_ok s (Grows m r n q a) (GrowsSome m r n q) (λ k. (a, k)) h

pub err_some : {A : Type 0} (s : Result A EngineFault) (m n : Option (List ℕ)) (r a : List ℕ) → IfErr s (BreaksOff m r n a) → IfErr s (BreaksSome m r n)
err_some s m n r a h = if_err s (BreaksOff m r n a) (BreaksSome m r n) (λ f k. (a, k)) h

pub ok_loop : {A B : Type 0} (s : Result A B) (k : ℕ) (r : LoopReport) (lines : List ℕ) (o m n : Option (List ℕ)) (p w q : List ℕ) → Lines k r lines → Grows o p m w lines → OnOk s (GrowsSome m w n q) → OnOk s (TellsLoop k r o p n q)
ok_loop s k r lines o m n p w q are g h = on_ok s (GrowsSome m w n q) (TellsLoop k r o p n q) (λ x. loop_told k r lines o m n p w q are g x) h

pub err_loop : {A : Type 0} (s : Result A EngineFault) (k : ℕ) (r : LoopReport) (lines : List ℕ) (o m n : Option (List ℕ)) (p w : List ℕ) → Lines k r lines → Grows o p m w lines → IfErr s (BreaksSome m w n) → IfErr s (BreaksLoop k r o p n)
err_loop s k r lines o m n p w are g h = if_err s (BreaksSome m w n) (BreaksLoop k r o p n) (λ f x. loop_breaks k r lines o m n p w f are g x) h

-- ---- one loop more

-- the lines of the first loops are a text of which a fault can come behind
front_of : (rs : List LoopReport) (k : ℕ) (text : List ℕ) → ListingOf LinesWhy 1 (take k rs) text → IsFront rs text
front_of rs k text listed = record { front = take k rs; rest = drop k rs; are = sym (take-append-drop k rs); listing = listed }

more_listed : (rs : List LoopReport) (k : ℕ) (r : LoopReport) (text last : List ℕ) → k < length rs → r ≡ get_or rs k r → ListingOf LinesWhy 1 (take k rs) text → LinesWhy (k + 1) r last → ListingOf LinesWhy 1 (take (k + 1) rs) (text ++ last)
more_listed rs k r text last within is listed lines = listed_more LinesWhy rs k r text (text ++ last) within is listed (record { last = last; fits = lines; grown = refl })

pub telling_more : (rs : List LoopReport) (k : ℕ) (r : LoopReport) (o m n : Option (List ℕ)) (p w q : List ℕ) → k < length rs → r ≡ get_or rs k r → Telling rs k o p m w → TellsLoop (k + 1) r m w n q → Telling rs (k + 1) o p n q
telling_more rs k r o m n p w q within is t h = record {
  text = t.text ++ h.0;
  listed = more_listed rs k r t.text h.0 within is t.listed h.1;
  grown = grows_on o m n p w q t.text h.0 t.grown h.2;
}

breaks_before : (rs : List LoopReport) (k : ℕ) (o m n : Option (List ℕ)) (p w : List ℕ) (f : EngineFault) (t : Telling rs k o p m w) (text : List ℕ) → text ≡ [] → BreaksOff m w n text f → BreaksEach rs o p n f
breaks_before rs k o m n p w f t text none h =
    let all : t.text ++ text ≡ t.text = ap (λ (x : List ℕ). t.text ++ x) none ∙ append-nil t.text in
    (t.text, front_of rs k t.text t.listed, subst (λ (x : List ℕ). BreaksOff o p n x f) all (breaks_on o m n p w t.text text f t.grown h))

breaks_within : (rs : List LoopReport) (k : ℕ) (r : LoopReport) (o m n : Option (List ℕ)) (p w : List ℕ) (f : EngineFault) → k < length rs → r ≡ get_or rs k r → (t : Telling rs k o p m w) (text : List ℕ) → (text ≡ []) ⊎ LinesWhy (k + 1) r text → BreaksOff m w n text f → BreaksEach rs o p n f
breaks_within rs k r o m n p w f within is t text (inl none) h = breaks_before rs k o m n p w f t text none h
breaks_within rs k r o m n p w f within is t text (inr lines) h =
    (t.text ++ text, front_of rs (k + 1) (t.text ++ text) (more_listed rs k r t.text text within is t.listed lines), breaks_on o m n p w t.text text f t.grown h)

pub telling_breaks : (rs : List LoopReport) (k : ℕ) (r : LoopReport) (o m n : Option (List ℕ)) (p w : List ℕ) (f : EngineFault) → k < length rs → r ≡ get_or rs k r → Telling rs k o p m w → BreaksLoop (k + 1) r m w n f → BreaksEach rs o p n f
telling_breaks rs k r o m n p w f within is t h = breaks_within rs k r o m n p w f within is t h.0 h.1 h.2

-- ---- all loops

pub none_written : (rs : List LoopReport) (o : Option (List ℕ)) → StreamsLoops rs o o (Err Memory)
none_written rs o = record { text = []; front = record { front = []; rest = rs; are = refl; listing = refl }; got = []; so = ([], refl); grown = Appends-nil o }

-- where nothing waited before the first loop
pub each_breaks : (rs : List LoopReport) (o n : Option (List ℕ)) (p : List ℕ) (f : EngineFault) → p ≡ [] → BreaksEach rs o p n f → StreamsLoops rs o n (Err f)
each_breaks rs o n p (Writing e) none h = record { text = h.0; front = h.1; got = h.2.got; so = subst (λ (x : List ℕ). FallsShort h.2.got (x ++ h.0)) none h.2.so; grown = h.2.grown }
each_breaks rs o n p Memory none h = record { text = h.0; front = h.1; got = h.2.got; so = subst (λ (x : List ℕ). Begins h.2.got (x ++ h.0)) none h.2.so; grown = h.2.grown }
each_breaks rs o n p (Source e) none h = absurd h.2
each_breaks rs o n p (Input e) none h = absurd h.2
each_breaks rs o n p (Schedule e) none h = absurd h.2
each_breaks rs o n p OutOfRange none h = absurd h.2
each_breaks rs o n p NotStarted none h = absurd h.2
each_breaks rs o n p Stuck none h = absurd h.2

-- what waited in the end wasn't all written
pub end_breaks : (rs : List LoopReport) (o m n : Option (List ℕ)) (p w : List ℕ) (f : EngineFault) → p ≡ [] → TellsEach rs o p m w → BreaksOff m w n [] f → StreamsLoops rs o n (Err f)
end_breaks rs o m n p w f none t h =
    let front : IsFront rs (t.0 ++ []) = record { front = rs; rest = []; are = sym (append-nil rs); listing = subst (λ (x : List ℕ). ListingOf LinesWhy 1 rs x) (sym (append-nil t.0)) t.1 } in
    each_breaks rs o n p f none (t.0 ++ [], front, breaks_on o m n p w t.0 [] f t.2 h)
