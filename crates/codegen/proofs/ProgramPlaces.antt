-- Who is where: nothing of code, of processes or of loops is seen.
use Rattle.std.proofs.Common.{◌≡◌, ◌∙◌, ℕ, ◌+◌, ◌<◌, ◌≤◌, Option, Some, None, ◌⊎◌, inl, inr, refl, sym, ap, subst, ⊎_elim, arith}
use Rattle.std.proofs.lemmas.Bool.{cases_eq, cases_lt}
use Rattle.machine.specs.State.{Wait, Who, the_main, iteration, put_at}
use Rattle.machine.proofs.Puts.{put_same}
use Rattle.codegen.proofs.IterationLaws.{put_other, put_cases}

module _ (A : Type 0) (p : ℕ) where
  pub record Whereabouts (retired ticket : ℕ) (iterations : ℕ → Option A) (parked : ℕ → Option Wait) (waiting : Option Wait) (held : ℕ → Option Who) : Type 0 where
    pub behind : retired ≤ ticket
    pub opened : (i : ℕ) → retired ≤ i → i < ticket → (a : A) × (iterations i ≡ Some a)
    pub closed : (i : ℕ) → (i < retired) ⊎ (ticket ≤ i) → iterations i ≡ None
    pub holds : (q i : ℕ) → held q ≡ Some (iteration i) → (retired ≤ i) × (i < ticket)
    pub waits : (i : ℕ) (w : Wait) → parked i ≡ Some w → (retired ≤ i) × (i < ticket)
    pub somewhere : (i : ℕ) → retired ≤ i → i < ticket → ((w : Wait) × (parked i ≡ Some w)) ⊎ ((q : ℕ) × (q < p) × (held q ≡ Some (iteration i)))
    pub main_somewhere : ((w : Wait) × (waiting ≡ Some w)) ⊎ ((q : ℕ) × (q < p) × (held q ≡ Some the_main))
    pub alone : (q r : ℕ) (u : Who) → held q ≡ Some u → held r ≡ Some u → q ≡ r
    pub apart : (q i : ℕ) (w : Wait) → held q ≡ Some (iteration i) → parked i ≡ Some w → ⊥
    pub main_apart : (q : ℕ) (w : Wait) → held q ≡ Some the_main → waiting ≡ Some w → ⊥

  module _ (retired ticket : ℕ) (iterations : ℕ → Option A) (parked : ℕ → Option Wait) (waiting : Option Wait) (held : ℕ → Option Who) (places : Whereabouts retired ticket iterations parked waiting held) (q : ℕ) where
    -- an open activity has a frame, one that is not open has none
    pub is_open : (i : ℕ) (a : A) → iterations i ≡ Some a → (retired ≤ i) × (i < ticket)
    is_open i a e =
        let above : retired ≤ i = ⊎_elim (λ lt. let z : Some a ≡ None = sym e ∙ places.closed i (inl lt) in cc) (λ ge. ge) (cases_lt i retired) in
        let below : i < ticket = ⊎_elim (λ lt. lt) (λ ge. let z : Some a ≡ None = sym e ∙ places.closed i (inr ge) in cc) (cases_lt i ticket) in
        (above, below)

    pub none_open : ticket ≤ retired → (i : ℕ) → iterations i ≡ None
    none_open le i = ⊎_elim (λ lt. places.closed i (inl lt)) (λ ge. places.closed i (inr (omega arith))) (cases_lt i retired)

    pub all_closed : ((i : ℕ) → iterations i ≡ None) → ticket ≤ retired
    all_closed h = ⊎_elim (λ lt. let o = places.opened retired (omega arith) lt in let z : Some o.0 ≡ None = sym o.1 ∙ h retired in cc) (λ ge. ge) (cases_lt retired ticket)

    module _ (u : Who) (hold : held q ≡ Some u) where
      -- q lets u go
      alone_drop : (r t : ℕ) (v : Who) → put_at held q None r ≡ Some v → put_at held q None t ≡ Some v → r ≡ t
      alone_drop r t v h g = ⊎_elim (λ a. cc) (λ b. ⊎_elim (λ a. cc) (λ c. places.alone r t v b.1 c.1) (put_cases held q None t (Some v) g)) (put_cases held q None r (Some v) h)

      still : (r : ℕ) (v : Who) → (v ≡ u → ⊥) → held r ≡ Some v → put_at held q None r ≡ Some v
      still r v ne h = put_other held q None r (λ e. ne (let z : Some v ≡ Some u = sym h ∙ ap held e ∙ hold in cc)) ∙ h

      dropped : (r : ℕ) (v : Who) → put_at held q None r ≡ Some v → (held r ≡ Some v) × (v ≡ u → ⊥)
      dropped r v h = ⊎_elim (λ a. cc) (λ b. (b.1, λ e. b.0 (places.alone r q v b.1 (hold ∙ ap Some (sym e))))) (put_cases held q None r (Some v) h)

    module _ (u : Who) (idle : held q ≡ None) where
      -- q takes u
      kept_by : (r : ℕ) (v : Who) → held r ≡ Some v → put_at held q (Some u) r ≡ Some v
      kept_by r v h = put_other held q (Some u) r (λ e. let z : Some v ≡ None = sym h ∙ ap held e ∙ idle in cc) ∙ h

      taken : (r : ℕ) (v : Who) → put_at held q (Some u) r ≡ Some v → ((r ≡ q) × (u ≡ v)) ⊎ (held r ≡ Some v)
      taken r v h = ⊎_elim (λ a. inl (a.0, cc)) (λ b. inr b.1) (put_cases held q (Some u) r (Some v) h)

      alone_take : ((r : ℕ) → held r ≡ Some u → ⊥) → (r t : ℕ) (v : Who) → put_at held q (Some u) r ≡ Some v → put_at held q (Some u) t ≡ Some v → r ≡ t
      alone_take free r t v h g = ⊎_elim
          (λ a. ⊎_elim (λ b. a.0 ∙ sym b.0) (λ b. absurd (free t (subst (λ x. held t ≡ Some x) (sym a.1) b))) (taken t v g))
          (λ a. ⊎_elim (λ b. absurd (free r (subst (λ x. held r ≡ Some x) (sym b.1) a))) (λ b. places.alone r t v a b) (taken t v g))
          (taken r v h)

    -- iteration k goes on
    pub places_go : (k : ℕ) → held q ≡ Some (iteration k) → (a : A) → Whereabouts retired ticket (put_at iterations k (Some a)) parked waiting held
    places_go k hold a =
        let here = places.holds q k hold in
        record {
          behind = places.behind;
          opened = λ i le lt. ⊎_elim
              (λ e. (a, subst (λ y. put_at iterations k (Some a) y ≡ Some a) (sym e) (put_same iterations k (Some a))))
              (λ ne. let o = places.opened i le lt in (o.0, put_other iterations k (Some a) i ne ∙ o.1))
              (cases_eq i k);
          closed = λ i c. put_other iterations k (Some a) i (λ e. ⊎_elim (λ l. absurd (omega arith)) (λ l. absurd (omega arith)) c) ∙ places.closed i c;
          holds = places.holds;
          waits = places.waits;
          somewhere = places.somewhere;
          main_somewhere = places.main_somewhere;
          alone = places.alone;
          apart = places.apart;
          main_apart = places.main_apart;
        }

    -- iteration k is parked
    pub places_park : (k : ℕ) → held q ≡ Some (iteration k) → (w : Wait) → Whereabouts retired ticket iterations (put_at parked k (Some w)) waiting (put_at held q None)
    places_park k hold w =
        let here = places.holds q k hold in
        record {
          behind = places.behind;
          opened = places.opened;
          closed = places.closed;
          holds = λ r i h. places.holds r i (dropped (iteration k) hold r (iteration i) h).0;
          waits = λ i x h. ⊎_elim
              (λ a. subst (λ y. (retired ≤ y) × (y < ticket)) (sym a.0) here)
              (λ b. places.waits i x b.1)
              (put_cases parked k (Some w) i (Some x) h);
          somewhere = λ i le lt. ⊎_elim
              (λ e. inl (w, subst (λ y. put_at parked k (Some w) y ≡ Some w) (sym e) (put_same parked k (Some w))))
              (λ ne. ⊎_elim
              (λ a. inl (a.0, put_other parked k (Some w) i ne ∙ a.1))
              (λ b. inr (b.0, b.1, still (iteration k) hold b.0 (iteration i) (λ z. ne cc) b.2))
              (places.somewhere i le lt))
              (cases_eq i k);
          main_somewhere = ⊎_elim (λ a. inl a) (λ b. inr (b.0, b.1, still (iteration k) hold b.0 the_main (λ z. cc) b.2)) places.main_somewhere;
          alone = alone_drop (iteration k) hold;
          apart = λ r i x h g.
              let d = dropped (iteration k) hold r (iteration i) h in
              ⊎_elim (λ c. d.1 (ap iteration c.0)) (λ c. places.apart r i x d.0 c.1) (put_cases parked k (Some w) i (Some x) g);
          main_apart = λ r x h g. places.main_apart r x (dropped (iteration k) hold r the_main h).0 g;
        }

    -- main is parked
    pub places_park_main : held q ≡ Some the_main → (w : Wait) → Whereabouts retired ticket iterations parked (Some w) (put_at held q None)
    places_park_main hold w = record {
      behind = places.behind;
      opened = places.opened;
      closed = places.closed;
      holds = λ r i h. places.holds r i (dropped the_main hold r (iteration i) h).0;
      waits = places.waits;
      somewhere = λ i le lt. ⊎_elim (λ a. inl a) (λ b. inr (b.0, b.1, still the_main hold b.0 (iteration i) (λ z. cc) b.2)) (places.somewhere i le lt);
      main_somewhere = inl (w, refl);
      alone = alone_drop the_main hold;
      apart = λ r i x h g. places.apart r i x (dropped the_main hold r (iteration i) h).0 g;
      main_apart = λ r x h g. (dropped the_main hold r the_main h).1 refl;
    }

    -- a parked iteration is picked
    pub places_pick : (k : ℕ) (w : Wait) → q < p → held q ≡ None → parked k ≡ Some w → Whereabouts retired ticket iterations (put_at parked k None) waiting (put_at held q (Some (iteration k)))
    places_pick k w below idle at =
        let here = places.waits k w at in
        record {
          behind = places.behind;
          opened = places.opened;
          closed = places.closed;
          holds = λ r i h. ⊎_elim
              (λ a. let e : k ≡ i = let z = a.1 in cc in subst (λ y. (retired ≤ y) × (y < ticket)) e here)
              (λ b. places.holds r i b) (taken (iteration k) idle r (iteration i) h);
          waits = λ i x h. ⊎_elim (λ a. cc) (λ b. places.waits i x b.1) (put_cases parked k None i (Some x) h);
          somewhere = λ i le lt. ⊎_elim
              (λ e. inr (q, below, put_same held q (Some (iteration k)) ∙ ap (λ x. Some (iteration x)) (sym e)))
              (λ ne. ⊎_elim
              (λ a. inl (a.0, put_other parked k None i ne ∙ a.1))
              (λ b. inr (b.0, b.1, kept_by (iteration k) idle b.0 (iteration i) b.2))
              (places.somewhere i le lt))
              (cases_eq i k);
          main_somewhere = ⊎_elim (λ a. inl a) (λ b. inr (b.0, b.1, kept_by (iteration k) idle b.0 the_main b.2)) places.main_somewhere;
          alone = alone_take (iteration k) idle (λ r h. places.apart r k w h at);
          apart = λ r i x h g. ⊎_elim (λ c. cc)
              (λ c. ⊎_elim (λ a. c.0 (let z = a.1 in cc)) (λ b. places.apart r i x b c.1) (taken (iteration k) idle r (iteration i) h))
              (put_cases parked k None i (Some x) g);
          main_apart = λ r x h g. ⊎_elim (λ a. let z = a.1 in cc) (λ b. places.main_apart r x b g) (taken (iteration k) idle r the_main h);
        }

    -- main is picked
    pub places_pick_main : (w : Wait) → q < p → held q ≡ None → waiting ≡ Some w → Whereabouts retired ticket iterations parked None (put_at held q (Some the_main))
    places_pick_main w below idle at = record {
      behind = places.behind;
      opened = places.opened;
      closed = places.closed;
      holds = λ r i h. ⊎_elim (λ a. let z = a.1 in cc) (λ b. places.holds r i b) (taken the_main idle r (iteration i) h);
      waits = places.waits;
      somewhere = λ i le lt. ⊎_elim (λ a. inl a) (λ b. inr (b.0, b.1, kept_by the_main idle b.0 (iteration i) b.2)) (places.somewhere i le lt);
      main_somewhere = inr (q, below, put_same held q (Some the_main));
      alone = alone_take the_main idle (λ r h. places.main_apart r w h at);
      apart = λ r i x h g. ⊎_elim (λ a. let z = a.1 in cc) (λ b. places.apart r i x b g) (taken the_main idle r (iteration i) h);
      main_apart = λ r x h g. cc;
    }

    -- the next ticket is taken
    pub places_ticket : q < p → held q ≡ None → (a : A) → Whereabouts retired (ticket + 1) (put_at iterations ticket (Some a)) parked waiting (put_at held q (Some (iteration ticket)))
    places_ticket below idle a =
        let bh = places.behind in
        record {
          behind = omega arith;
          opened = λ i le lt. ⊎_elim
              (λ e. (a, subst (λ y. put_at iterations ticket (Some a) y ≡ Some a) (sym e) (put_same iterations ticket (Some a))))
              (λ ne. let o = places.opened i le (omega arith) in (o.0, put_other iterations ticket (Some a) i ne ∙ o.1))
              (cases_eq i ticket);
          closed = λ i c. put_other iterations ticket (Some a) i (λ e. ⊎_elim (λ l. absurd (omega arith)) (λ l. absurd (omega arith)) c)
              ∙ places.closed i (⊎_elim (λ l. inl l) (λ l. inr (omega arith)) c);
          holds = λ r i h. ⊎_elim
              (λ b. let e : ticket ≡ i = let z = b.1 in cc in subst (λ y. (retired ≤ y) × (y < ticket + 1)) e (omega arith, omega arith))
              (λ b. let o = places.holds r i b in (o.0, omega arith)) (taken (iteration ticket) idle r (iteration i) h);
          waits = λ i x h. let o = places.waits i x h in (o.0, omega arith);
          somewhere = λ i le lt. ⊎_elim
              (λ e. inr (q, below, put_same held q (Some (iteration ticket)) ∙ ap (λ x. Some (iteration x)) (sym e)))
              (λ ne. ⊎_elim (λ z. inl z) (λ b. inr (b.0, b.1, kept_by (iteration ticket) idle b.0 (iteration i) b.2)) (places.somewhere i le (omega arith)))
              (cases_eq i ticket);
          main_somewhere = ⊎_elim (λ z. inl z) (λ b. inr (b.0, b.1, kept_by (iteration ticket) idle b.0 the_main b.2)) places.main_somewhere;
          alone = alone_take (iteration ticket) idle (λ r h. let o = places.holds r ticket h in absurd (omega arith));
          apart = λ r i x h g. ⊎_elim
              (λ b. let o = places.waits i x g in let e : ticket ≡ i = let z = b.1 in cc in absurd (omega arith))
              (λ b. places.apart r i x b g) (taken (iteration ticket) idle r (iteration i) h);
          main_apart = λ r x h g. ⊎_elim (λ b. let z = b.1 in cc) (λ b. places.main_apart r x b g) (taken (iteration ticket) idle r the_main h);
        }

    -- the retiredest retires
    pub places_retire : held q ≡ Some (iteration retired) → Whereabouts (retired + 1) ticket (put_at iterations retired None) parked waiting (put_at held q None)
    places_retire hold =
        let here = places.holds q retired hold in
        let bh = places.behind in
        record {
          behind = omega arith;
          opened = λ i le lt. let o = places.opened i (omega arith) lt in (o.0, put_other iterations retired None i (λ e. absurd (omega arith)) ∙ o.1);
          closed = λ i c. ⊎_elim
              (λ e. subst (λ y. put_at iterations retired None y ≡ None) (sym e) (put_same iterations retired None))
              (λ ne. put_other iterations retired None i ne ∙ places.closed i (⊎_elim (λ l. inl (omega arith)) (λ l. inr l) c))
              (cases_eq i retired);
          holds = λ r i h.
              let d = dropped (iteration retired) hold r (iteration i) h in
              let o = places.holds r i d.0 in
              let ne : i ≡ retired → ⊥ = λ e. d.1 (ap iteration e) in
              (⊎_elim (λ e. absurd (ne e)) (λ n. omega arith) (cases_eq i retired), o.1);
          waits = λ i x h.
              let o = places.waits i x h in
              let ne : i ≡ retired → ⊥ = λ e. places.apart q retired x hold (subst (λ y. parked y ≡ Some x) e h) in
              (⊎_elim (λ e. absurd (ne e)) (λ n. omega arith) (cases_eq i retired), o.1);
          somewhere = λ i le lt.
              let ne : iteration i ≡ iteration retired → ⊥ = λ e. let z : i ≡ retired = cc in absurd (omega arith) in
              ⊎_elim (λ z. inl z) (λ b. inr (b.0, b.1, still (iteration retired) hold b.0 (iteration i) ne b.2)) (places.somewhere i (omega arith) lt);
          main_somewhere = ⊎_elim (λ z. inl z) (λ b. inr (b.0, b.1, still (iteration retired) hold b.0 the_main (λ z. cc) b.2)) places.main_somewhere;
          alone = alone_drop (iteration retired) hold;
          apart = λ r i x h g. places.apart r i x (dropped (iteration retired) hold r (iteration i) h).0 g;
          main_apart = λ r x h g. places.main_apart r x (dropped (iteration retired) hold r the_main h).0 g;
        }

    -- a loop is opened, where no iteration is open
    pub places_open : ((i : ℕ) → iterations i ≡ None) → Whereabouts 0 0 iterations parked waiting held
    places_open none =
        let le = all_closed none in
        record {
          behind = omega arith;
          opened = λ i l lt. absurd (omega arith);
          closed = λ i c. none i;
          holds = λ r i h. let o = places.holds r i h in absurd (omega arith);
          waits = λ i x h. let o = places.waits i x h in absurd (omega arith);
          somewhere = λ i l lt. absurd (omega arith);
          main_somewhere = places.main_somewhere;
          alone = places.alone;
          apart = places.apart;
          main_apart = places.main_apart;
        }

  -- at the start main is parked
  pub places_init : (w : Wait) → Whereabouts 0 0 (λ i. None) (λ i. None) (Some w) (λ q. None)
  places_init w = record {
    behind = omega arith;
    opened = λ i l lt. absurd (omega arith);
    closed = λ i c. refl;
    holds = λ r i h. cc;
    waits = λ i x h. cc;
    somewhere = λ i l lt. absurd (omega arith);
    main_somewhere = inl (w, refl);
    alone = λ q r u h g. cc;
    apart = λ q i x h g. cc;
    main_apart = λ q x h g. cc;
  }
