-- The sentences about a beginning, an offer and a settling leave no byte open.
use Prim.Native.Nat.{ℕ, zero, suc, ◌+◌, ◌-◌, ◌*◌, ◌≤◌, ◌<◌}
use native.Mathlib.Nat.{zero-add, add-zero, add-suc}
use native.Mathlib.Omega.{arith}
use mathlib.Core.Path.{◌≡◌, refl, sym, ap, subst, ◌∙◌}
use mathlib.Core.Bool.{Bool, true, cond}
use mathlib.Core.Logic.Iff
use mathlib.Core.Logic.{◌↔◌, ◌⊎◌, inl, inr}
use mathlib.Core.List.{List}
use lib.ListN.{length, get_or}
use Rattle.base.specs.Lists.{bytes_at}
use Rattle.base.proofs.Lists.{length-tabulate, get_or-tabulate}
use Rattle.base.proofs.Stores.{length_bytes, bytes_same, bytes_all}
use Rattle.meaning.specs.Sizes.{time_width}
use Rattle.meaning.specs.Program.{parts, variables, clocks}
use Rattle.meaning.specs.Table.{is_table}
use Rattle.meaning.specs.Record.{time_place, estimate_place, started_place, starts_place, marks_place, record_length, time_at, phase_of, last_time, estimate_in, started_in, starts_in, marks_in, is_mark, waiting, finished}
use Rattle.meaning.specs.Conditions.{Situation}
use Rattle.meaning.specs.Cycle.{situation}
use Rattle.meaning.proofs.Nesting.{lower}
use Rattle.sentences.specs.Marks.{Marked, Flags, NoGoalAt, GoalsAgree, GoalsDiffer, NamesLowest, StartAt}
use Rattle.sentences.specs.Fields.{Bytes, Spare}
use Rattle.sentences.specs.Stepping.{BeginningSteps, OfferSteps, SettlingSteps}
use Rattle.sentences.proofs.AllowedRecords.{is_mark_lem}
use Rattle.sentences.proofs.RecordFields.{byte_same}
use Rattle.sentences.proofs.GoalBytes.{Says, byte_says, goal_values_fit}
use Rattle.sentences.proofs.Naming.{one_lowest}
use Rattle.sentences.proofs.ClockStarts.{named_or_not}
use Rattle.sentences.proofs.Endings.{same_after, determined}

-- lists that have the same at each place
same_list : (a b : List ℕ) → length a ≡ length b → ((i : ℕ) → i < length a → get_or a i 0 ≡ get_or b i 0) → a ≡ b
same_list a b e h = sym (bytes_all a) ∙ bytes_same b a 0 (length a) (λ j l k. h j (omega arith)) ∙ rw (← e) at (bytes_all b)

-- a byte of times one after the other is one of one time
by_fours : (n : ℕ) → (c : ℕ) × (j : ℕ) × (n ≡ time_width * c + j) × (j < time_width)
by_fours zero = (0, 0, omega arith, omega arith)
by_fours (suc n) = let (c, j, e, l) = by_fours n in go c j e l (lower (suc j) time_width)
  where
    go : (c j : ℕ) → n ≡ time_width * c + j → j < time_width → (suc j < time_width) ⊎ (time_width ≤ suc j) → (c : ℕ) × (j : ℕ) × (suc n ≡ time_width * c + j) × (j < time_width)
    go c j e k (inl l) = (c, suc j, omega arith, l)
    go c j e k (inr l) = (suc c, 0, omega arith, omega arith)

module _ (a b : List ℕ) (small : Bytes a) (others : Bytes b) where
  -- the bytes of equal times are equal
  digits : (i j : ℕ) → j < time_width → time_at a i ≡ time_at b i → get_or a (i + j) 0 ≡ get_or b (i + j) 0
  digits i zero l e = rw add-zero (omega (arith, small i, others i))
  digits i (suc zero) l e = rw (add-suc, add-zero) (omega (arith, small i, others i, small (suc i), others (suc i)))
  digits i (suc (suc zero)) l e = rw (add-suc, add-suc, add-zero) (omega (arith, small i, others i, small (suc i), others (suc i), small (suc (suc i)), others (suc (suc i))))
  digits i (suc (suc (suc zero))) l e = rw (add-suc, add-suc, add-suc, add-zero) (omega (arith, small i, others i, small (suc i), others (suc i), small (suc (suc i)), others (suc (suc i))))
  digits i (suc (suc (suc (suc j)))) l e = absurd (omega arith)

-- two records that say the same, byte for byte
record Same (t a b : List ℕ) : Type 0 where
  phases : phase_of a ≡ phase_of b
  times : last_time a ≡ last_time b
  estimates : estimate_in t a ≡ estimate_in t b
  flags : started_in t a ≡ started_in t b
  starts : starts_in t a ≡ starts_in t b
  marks : marks_in t a ≡ marks_in t b
  spares : (i : ℕ) → Spare t i → get_or a i 0 ≡ get_or b i 0
  lengths : length a ≡ length b

module _ (t a b : List ℕ) (small : Bytes a) (others : Bytes b) (s : Same t a b) where
  in_field : (k n : ℕ) → bytes_at a k n ≡ bytes_at b k n → (i : ℕ) → k ≤ i → i < k + n → get_or a i 0 ≡ get_or b i 0
  in_field k n e i l m =
      let j : k + (i - k) ≡ i = omega arith in
      rw j at (byte_same a b k n e (i - k) (omega arith))

  in_time : (k : ℕ) → time_at a k ≡ time_at b k → (i : ℕ) → k ≤ i → i < k + time_width → get_or a i 0 ≡ get_or b i 0
  in_time k e i l m =
      let j : k + (i - k) ≡ i = omega arith in
      rw j at (digits a b small others k (i - k) (omega arith) e)

  clock_time : (c : ℕ) → c < clocks t → time_at a (starts_place + time_width * c) ≡ time_at b (starts_place + time_width * c)
  clock_time c l =
      let read : (r : List ℕ) → get_or (starts_in t r) c 0 ≡ time_at r (starts_place + time_width * c) = λ r. get_or-tabulate (λ k. time_at r (starts_place + time_width * k)) 0 (clocks t) c 0 l ∙ rw zero-add in
      sym (read a) ∙ ap (λ (x : List ℕ). get_or x c 0) s.starts ∙ read b

  in_starts : (i : ℕ) → starts_place ≤ i → i < starts_place + time_width * clocks t → get_or a i 0 ≡ get_or b i 0
  in_starts i l m =
      let (c, j, e, k) = by_fours (i - starts_place) in
      in_time (starts_place + time_width * c) (clock_time c (omega arith)) i (omega arith) (omega arith)

  same_byte : (i : ℕ) → get_or a i 0 ≡ get_or b i 0
  same_byte i = phase (lower i time_place)
    where
      marks : marks_place ≤ i → (i < marks_place + parts t) ⊎ (marks_place + parts t ≤ i) → get_or a i 0 ≡ get_or b i 0
      marks l (inl m) = in_field marks_place (parts t) s.marks i l m
      marks l (inr m) = s.spares i (inr (inr (inr m)))

      starts : starts_place ≤ i → (i < marks_place) ⊎ (marks_place ≤ i) → (i < starts_place + time_width * clocks t) ⊎ (starts_place + time_width * clocks t ≤ i) → get_or a i 0 ≡ get_or b i 0
      starts l (inl m) (inl n) = in_starts i l n
      starts l (inl m) (inr n) = s.spares i (inr (inr (inl (n, m))))
      starts l (inr m) n = marks m (lower i (marks_place + parts t))

      flags : started_place ≤ i → (i < starts_place) ⊎ (starts_place ≤ i) → (i < started_place + clocks t) ⊎ (started_place + clocks t ≤ i) → get_or a i 0 ≡ get_or b i 0
      flags l (inl m) (inl n) = in_field started_place (clocks t) s.flags i l n
      flags l (inl m) (inr n) = s.spares i (inr (inl (n, m)))
      flags l (inr m) n = starts m (lower i marks_place) (lower i (starts_place + time_width * clocks t))

      estimate : estimate_place ≤ i → (i < started_place) ⊎ (started_place ≤ i) → (i < estimate_place + variables t) ⊎ (estimate_place + variables t ≤ i) → get_or a i 0 ≡ get_or b i 0
      estimate l (inl m) (inl n) = in_field estimate_place (variables t) s.estimates i l n
      estimate l (inl m) (inr n) = s.spares i (inl (n, m))
      estimate l (inr m) n = flags m (lower i starts_place) (lower i (started_place + clocks t))

      time : time_place ≤ i → (i < estimate_place) ⊎ (estimate_place ≤ i) → get_or a i 0 ≡ get_or b i 0
      time l (inl m) = in_time time_place s.times i l m
      time l (inr m) = estimate m (lower i started_place) (lower i (estimate_place + variables t))

      phase : (i < time_place) ⊎ (time_place ≤ i) → get_or a i 0 ≡ get_or b i 0
      phase (inl l) = let z : i ≡ 0 = omega arith in rw z s.phases
      phase (inr l) = time l (lower i estimate_place)

  same_record : a ≡ b
  same_record = same_list a b s.lengths (λ i l. same_byte i)

-- as many bytes for each field
same_length : (a b : List ℕ) (k n : ℕ) → length (bytes_at a k n) ≡ length (bytes_at b k n)
same_length a b k n = length_bytes a k n ∙ sym (length_bytes b k n)

-- marks of 0 or 1 that are 1 at the same parts
same_marks : (t a b : List ℕ) → Flags (marks_in t a) → Flags (marks_in t b) → ((p : ℕ) → Marked (marks_in t a) p ↔ Marked (marks_in t b) p) → marks_in t a ≡ marks_in t b
same_marks t a b f g same = same_list (marks_in t a) (marks_in t b) (same_length a b marks_place (parts t)) (λ p l. same_flag (get_or (marks_in t a) p 0) (get_or (marks_in t b) p 0) (f p) (g p) (same p))
  where
    same_flag : (m n : ℕ) → m ≤ 1 → n ≤ 1 → ((is_mark m ≡ true) ↔ (is_mark n ≡ true)) → m ≡ n
    same_flag zero zero f g h = refl
    same_flag zero (suc n) f g h = absurd (omega (arith, (is_mark_lem 0).0 (h.1 ((is_mark_lem (suc n)).1 (omega arith)))))
    same_flag (suc m) zero f g h = absurd (omega (arith, (is_mark_lem 0).0 (h.0 ((is_mark_lem (suc m)).1 (omega arith)))))
    same_flag (suc m) (suc n) f g h = omega arith

-- start times, clock by clock
same_starts : (t a b : List ℕ) → ((c : ℕ) → c < clocks t → get_or (starts_in t a) c 0 ≡ get_or (starts_in t b) c 0) → starts_in t a ≡ starts_in t b
same_starts t a b same =
    let long : (r : List ℕ) → length (starts_in t r) ≡ clocks t = λ r. length-tabulate _ 0 (clocks t) in
    same_list (starts_in t a) (starts_in t b) (long a ∙ sym (long b)) (λ c l. same c (rw (long a) at l))

module _ (t est r a b : List ℕ) (x : BeginningSteps t est r a) (y : BeginningSteps t est r b) where
  -- two records that meet the sentences about one beginning are the same
  pub beginning_only : Bytes a → Bytes b → a ≡ b
  beginning_only small others =
      same_record t a b small others
      (record {
        phases = x.begins_waiting ∙ sym y.begins_waiting;
        times = x.begins_at ∙ sym y.begins_at;
        estimates = x.first_stored ∙ sym y.first_stored;
        flags = same_list (started_in t a) (started_in t b) (same_length a b started_place (clocks t)) (λ c l. (x.none_started c (rw length_bytes at l)).0 ∙ sym (y.none_started c (rw length_bytes at l)).0);
        starts = same_starts t a b (λ c l. (x.none_started c l).1 ∙ sym (y.none_started c l).1);
        marks = same_marks t a b x.first_marks y.first_marks (λ p. Iff.trans (x.root_initialised p) (Iff.symm (y.root_initialised p)));
        spares = λ i k. spare i k (lower i record_length);
        lengths = x.buffer_length ∙ sym y.buffer_length;
      })
    where
      spare : (i : ℕ) → Spare t i → (i < record_length) ⊎ (record_length ≤ i) → get_or a i 0 ≡ get_or b i 0
      spare i k (inl l) = x.spare_zero i k l ∙ sym (y.spare_zero i k l)
      spare i k (inr l) = x.further_kept i l ∙ sym (y.further_kept i l)

module _ (t r : List ℕ) (time : ℕ) (goals : List ℕ) (na : ℕ) (a ga : List ℕ) (nb : ℕ) (b gb : List ℕ) (x : OfferSteps t r time goals na a ga) (y : OfferSteps t r time goals nb b gb) where
  offered_marks : marks_in t a ≡ marks_in t b
  offered_marks = same_marks t a b x.checked_flags y.checked_flags (λ p. Iff.trans (x.marks_checked p) (Iff.symm (y.marks_checked p)))

  -- a goal byte says one of the three, and both say the same
  same_goal : is_table t ≡ true → (v : ℕ) → v < variables t → get_or ga v 0 ≡ get_or gb v 0
  same_goal h v l = go _ (byte_says t (marks_in t a) v (λ p (k, m, g, e). goal_values_fit t h p (rw length_bytes at k) g))
    where
      go : (g : ℕ) → Says g t (marks_in t a) v → get_or ga v 0 ≡ get_or gb v 0
      go g (inl (e, none)) = (x.goal_none v l).1 none ∙ sym ((y.goal_none v l).1 (subst (λ ms. NoGoalAt t ms v) offered_marks none))
      go g (inr (inl (e, agree))) = ((x.goal_value v l g).1 agree).0 ∙ sym ((y.goal_value v l g).1 (subst (λ ms. GoalsAgree t ms v g) offered_marks agree)).0
      go g (inr (inr (e, differ))) = (x.goal_differs v l).1 differ ∙ sym ((y.goal_differs v l).1 (subst (λ ms. GoalsDiffer t ms v) offered_marks differ))

  same_name : na ≡ nb
  same_name = one_lowest (GoalsDiffer t (marks_in t a)) (variables t) na nb x.lowest_named (subst (λ ms. NamesLowest (GoalsDiffer t ms) (variables t) nb) (sym offered_marks) y.lowest_named)

  -- two names, records and goal buffers that meet those about one offer
  pub offer_only : is_table t ≡ true → Bytes a → Bytes b → (na ≡ nb) × (a ≡ b) × (ga ≡ gb)
  offer_only h small others = (
    same_name,
    same_record t a b small others
        (record {
          phases = x.phase_offered ∙ sym y.phase_offered;
          times = x.time_offered ∙ sym y.time_offered;
          estimates = x.estimate_kept ∙ sym y.estimate_kept;
          flags = x.clocks_kept.0 ∙ sym y.clocks_kept.0;
          starts = x.clocks_kept.1 ∙ sym y.clocks_kept.1;
          marks = offered_marks;
          spares = λ i k. x.offer_spare i k ∙ sym (y.offer_spare i k);
          lengths = x.offer_length ∙ sym y.offer_length;
        }),
    same_list ga gb (x.goals_length ∙ sym y.goals_length) (λ v l. goal v (lower v (variables t))),
  )
    where
      goal : (v : ℕ) → (v < variables t) ⊎ (variables t ≤ v) → get_or ga v 0 ≡ get_or gb v 0
      goal v (inl l) = same_goal h v l
      goal v (inr l) = x.goals_kept v l ∙ sym (y.goals_kept v l)

module _ (t r est a b : List ℕ) (h : is_table t ≡ true) (x : SettlingSteps t r est a) (y : SettlingSteps t r est b) where
  abbrev sit : Situation
  sit = situation t r est (last_time r)

  whole : length (marks_in t r) ≡ parts t
  whole = length_bytes r marks_place (parts t)

  ends_same : (p : ℕ) → x.ends p ≡ y.ends p
  ends_same = determined t h sit (marks_in t r) whole x.ends y.ends x.endings y.endings

  settled_same : marks_in t a ≡ marks_in t b
  settled_same =
      same_marks t a b x.settled_flags_lem y.settled_flags_lem
      (λ p. (
        λ m. (y.marks_settled p).1 (same_after t h sit (marks_in t r) whole x.ends y.ends ends_same p ((x.marks_settled p).0 m)),
        λ m. (x.marks_settled p).1 (same_after t h sit (marks_in t r) whole y.ends x.ends (λ q. sym (ends_same q)) p ((y.marks_settled p).0 m)),
      ))

  clock_same : (c : ℕ) → c < clocks t → (get_or (started_in t a) c 0 ≡ get_or (started_in t b) c 0) × (get_or (starts_in t a) c 0 ≡ get_or (starts_in t b) c 0)
  clock_same c l = go (named_or_not t (marks_in t r) c)
    where
      go : ((p : ℕ) × StartAt t (marks_in t r) c p) ⊎ ((p : ℕ) → StartAt t (marks_in t r) c p → ⊥) → (get_or (started_in t a) c 0 ≡ get_or (started_in t b) c 0) × (get_or (starts_in t a) c 0 ≡ get_or (starts_in t b) c 0)
      go (inl (p, s)) = let (f, g) = x.clock_set c l p s in let (h, k) = y.clock_set c l p s in (f ∙ sym h, g ∙ sym k)
      go (inr n) = let (f, g) = x.clock_kept c l n in let (h, k) = y.clock_kept c l n in (f ∙ sym h, g ∙ sym k)

  -- two records that meet those about one settling
  pub settling_only : Bytes a → Bytes b → a ≡ b
  settling_only small others =
      same_record t a b small others
      (record {
        phases = x.phase_settled ∙ ap (λ (e : Bool). cond e finished waiting) (ends_same 0) ∙ sym y.phase_settled;
        times = x.time_kept ∙ sym y.time_kept;
        estimates = x.estimate_stored ∙ sym y.estimate_stored;
        flags = same_list (started_in t a) (started_in t b) (same_length a b started_place (clocks t)) (λ c l. (clock_same c (rw length_bytes at l)).0);
        starts = same_starts t a b (λ c l. (clock_same c l).1);
        marks = settled_same;
        spares = λ i k. x.settled_spare i k ∙ sym (y.settled_spare i k);
        lengths = x.settled_length ∙ sym y.settled_length;
      })
