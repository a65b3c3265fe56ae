-- What each field of a record is after a beginning, an offer and a settling, whatever stood in the record.
use Prim.Native.Nat.{ℕ, zero, suc, ◌+◌, ◌-◌, ◌*◌, ◌≤◌, ◌<◌}
use native.Mathlib.Nat.{add-suc}
use native.Mathlib.Omega.{arith}
use mathlib.Core.Path.{◌≡◌, refl, sym, ap, ap₂, ◌∙◌}
use mathlib.Core.Bool.{true, cond}
use mathlib.Core.Logic.{◌⊎◌, inl, inr}
use mathlib.Core.List.{List, [], ◌∷◌, map}
use lib.ListN.{length, get_or, set, drop}
use lib.Seq.{sets, length-sets}
use Rattle.base.specs.Lists.{flat, bytes_at}
use Rattle.base.proofs.Lists.{get_or-tabulate, tabulate-same}
use Rattle.base.proofs.Stores.{length_bytes, get_or_bytes, get_or-sets_out, drop_bytes, bytes_sets_out, bytes_sets, drop-sets_out}
use Rattle.meaning.specs.Sizes.{max_parts, time_width, little_endian, little_endian_value, time_limit}
use Rattle.meaning.specs.Program.{parts, variables, clocks}
use Rattle.meaning.specs.Table.{is_table}
use Rattle.meaning.specs.Record.{time_place, estimate_place, started_place, starts_place, marks_place, record_length, time_at, last_time, estimate_in, started_in, starts_in, marks_in, started_flag, offered, waiting, finished}
use Rattle.meaning.specs.Cycle.{checked_marks, offered_record, offer_refusal, offered_into, settled_marks, settled_record, settle_refusal, settled_into, root_ended, starting_leaves, settled_flags, settled_starts}
use Rattle.sentences.specs.Fields.{Fields, Bytes, Spare}
use Rattle.meaning.proofs.Tables.{table_held}
use Rattle.meaning.proofs.Clocks.{length_after, each_after}
use Rattle.meaning.proofs.Records.{time_back, times_back, length_times, length_checked, length_settled, allowed_long, estimate_fits}
use Rattle.meaning.proofs.Refusals.{offer_tests_lem, settle_tests_lem, settled_phase}

-- Where the fields stand, one after the other
abbrev fields : List ℕ → List (ℕ × ℕ)
fields t =
    (0, 1)
    ∷ (time_place, time_width)
    ∷ (estimate_place, variables t)
    ∷ (started_place, clocks t)
    ∷ (starts_place, time_width * clocks t)
    ∷ (marks_place, parts t)
    ∷ []

abbrev After : ℕ → List (ℕ × ℕ) → Type 0
After i [] = i ≤ record_length
After i (u ∷ us) = (i ≤ u.0) × After (u.0 + u.1) us

in_order : (t : List ℕ) → is_table t ≡ true → After 0 (fields t)
in_order t h =
    let x = table_held t h in
    let v = x.1.within.variables_fit in
    let k = x.1.within.clocks_fit in
    let n : parts t ≤ max_parts = omega (arith, x.1.parts_are, x.1.within.size_fits) in
    (omega arith, (omega arith, (omega arith, (omega arith, (omega arith, (omega arith, omega arith))))))

-- the bytes of fields, and where a field begins
abbrev contents : List ℕ → List (ℕ × ℕ) → List (List ℕ)
contents r us = map (λ u. bytes_at r u.0 u.1) us

abbrev field_at : List (ℕ × ℕ) → ℕ → ℕ × ℕ
field_at us m = get_or us m (0, 0)

contents_after : (r xs : List ℕ) (i e : ℕ) (us : List (ℕ × ℕ)) → After e us → i + length xs ≤ e → contents (sets r i xs) us ≡ contents r us
contents_after r xs i e [] h l = refl
contents_after r xs i e (u ∷ us) h l =
    ap₂ ◌∷◌ (bytes_sets_out xs r i u.0 u.1 (inr (omega (arith, h.0)))) (contents_after r xs i (u.0 + u.1) us h.1 (omega (arith, h.0)))

after_end : (e : ℕ) (us : List (ℕ × ℕ)) → After e us → e ≤ record_length
after_end e [] h = h
after_end e (u ∷ us) h = omega (arith, h.0, after_end (u.0 + u.1) us h.1)

field_within : (e : ℕ) (us : List (ℕ × ℕ)) → After e us → (m : ℕ) → m < length us → (e ≤ (field_at us m).0) × ((field_at us m).0 + (field_at us m).1 ≤ record_length)
field_within e [] h m l = absurd (omega arith)
field_within e (u ∷ us) h zero l = (h.0, after_end (u.0 + u.1) us h.1)
field_within e (u ∷ us) h (suc m) l =
    let w = field_within (u.0 + u.1) us h.1 m (omega arith) in
    (omega (arith, h.0, w.0), w.1)

-- a store of one field: it has the new bytes, and every other field those it had
put : (r : List ℕ) (e : ℕ) (us : List (ℕ × ℕ)) → record_length ≤ length r → After e us → (m : ℕ) (xs : List ℕ) → m < length us → length xs ≡ (field_at us m).1
    → contents (sets r (field_at us m).0 xs) us ≡ set (contents r us) m xs
put r e [] long h m xs l n = absurd (omega arith)
put r e (u ∷ us) long h zero xs l n =
    ap₂ ◌∷◌ (bytes_sets xs r u.0 u.1 n (omega (arith, field_within e (u ∷ us) h 0 l))) (contents_after r xs u.0 (u.0 + u.1) us h.1 (omega arith))
put r e (u ∷ us) long h (suc m) xs l n =
    ap₂ ◌∷◌ (bytes_sets_out xs r (field_at us m).0 u.0 u.1 (inl (field_within (u.0 + u.1) us h.1 m (omega arith)).0)) (put r (u.0 + u.1) us long h.1 m xs (omega arith) n)

-- stores of fields, one after the other
abbrev put_all_lem : List (ℕ × ℕ) → List (ℕ × List ℕ) → List ℕ → List ℕ
put_all_lem us [] r = r
put_all_lem us (w ∷ ws) r = put_all_lem us ws (sets r (field_at us w.0).0 w.1)

abbrev set_all : List (ℕ × List ℕ) → List (List ℕ) → List (List ℕ)
set_all [] cs = cs
set_all (w ∷ ws) cs = set_all ws (set cs w.0 w.1)

abbrev Fitting : List (ℕ × ℕ) → List (ℕ × List ℕ) → Type 0
Fitting us [] = Unit {0}
Fitting us (w ∷ ws) = (w.0 < length us) × (length w.1 ≡ (field_at us w.0).1) × Fitting us ws

put_all : (us : List (ℕ × ℕ)) → After 0 us → (ws : List (ℕ × List ℕ)) → Fitting us ws → (r : List ℕ) → record_length ≤ length r
    → (record_length ≤ length (put_all_lem us ws r)) × (contents (put_all_lem us ws r) us ≡ set_all ws (contents r us)) × (drop record_length (put_all_lem us ws r) ≡ drop record_length r)
put_all us h [] g r long = (long, refl, refl)
put_all us h (w ∷ ws) g r long =
    let place = (field_at us w.0).0 in
    let rest = put_all us h ws g.2 (sets r place w.1) (rw (length-sets r place w.1) long) in (
      rest.0,
      rest.1 ∙ ap (set_all ws) (put r 0 us long h w.0 w.1 g.0 g.1),
      rest.2 ∙ drop-sets_out w.1 r place record_length (omega (arith, g.1, (field_within 0 us h w.0 g.0).1)),
    )

-- a place outside all fields
abbrev Outside : ℕ → List (ℕ × ℕ) → Type 0
Outside i [] = Unit {0}
Outside i (u ∷ us) = ((i < u.0) ⊎ (u.0 + u.1 ≤ i)) × Outside i us

outside_at : (i : ℕ) (us : List (ℕ × ℕ)) → Outside i us → (m : ℕ) → m < length us → (i < (field_at us m).0) ⊎ ((field_at us m).0 + (field_at us m).1 ≤ i)
outside_at i [] o m l = absurd (omega arith)
outside_at i (u ∷ us) o zero l = o.0
outside_at i (u ∷ us) o (suc m) l = outside_at i us o.1 m (omega arith)

-- "entries beyond V, K and N" stand there
spare_outside : (t : List ℕ) → is_table t ≡ true → (i : ℕ) → Spare t i → Outside i (fields t)
spare_outside t h i s = go s
  where
    order : After 0 (fields t)
    order = in_order t h

    go : Spare t i → Outside i (fields t)
    go (inl a) = (inr (omega arith), (inr (omega arith), (inr (omega arith), (inl (omega arith), (inl (omega arith), (inl (omega arith), tt))))))
    go (inr (inl a)) = (inr (omega arith), (inr (omega arith), (inr (omega (arith, order)), (inr (omega arith), (inl (omega arith), (inl (omega arith), tt))))))
    go (inr (inr (inl a))) = (inr (omega arith), (inr (omega arith), (inr (omega (arith, order)), (inr (omega (arith, order)), (inr (omega arith), (inl (omega arith), tt))))))
    go (inr (inr (inr a))) = (inr (omega arith), (inr (omega arith), (inr (omega (arith, order)), (inr (omega (arith, order)), (inr (omega (arith, order)), (inr (omega arith), tt))))))

-- stores of fields leave it as it was
put_outside : (us : List (ℕ × ℕ)) (i : ℕ) → Outside i us → (ws : List (ℕ × List ℕ)) → Fitting us ws → (r : List ℕ) → get_or (put_all_lem us ws r) i 0 ≡ get_or r i 0
put_outside us i o [] g r = refl
put_outside us i o (w ∷ ws) g r =
    let place = (field_at us w.0).0 in
    put_outside us i o ws g.2 (sets r place w.1) ∙ get_or-sets_out w.1 r place i (rw g.1 (outside_at i us o w.0 g.0))

put_length : (us : List (ℕ × ℕ)) (ws : List (ℕ × List ℕ)) (r : List ℕ) → length (put_all_lem us ws r) ≡ length r
put_length us [] r = refl
put_length us (w ∷ ws) r = put_length us ws (sets r (field_at us w.0).0 w.1) ∙ length-sets r (field_at us w.0).0 w.1

-- times are read from the bytes where they stand
module _ (r q : List ℕ) (j n : ℕ) (e : bytes_at r j n ≡ bytes_at q j n) where
  pub byte_same : (i : ℕ) → i < n → get_or r (j + i) 0 ≡ get_or q (j + i) 0
  byte_same i h = sym (get_or_bytes r j n i h) ∙ ap (λ (x : List ℕ). get_or x i 0) e ∙ get_or_bytes q j n i h

  part_same : (w i : ℕ) → i + w ≤ n → bytes_at r (j + i) w ≡ bytes_at q (j + i) w
  part_same zero i h = refl
  part_same (suc w) i h = ap₂ ◌∷◌ (byte_same i (omega arith)) (rw add-suc at (part_same w (suc i) (omega arith)))

  time_same : (i : ℕ) → i + time_width ≤ n → time_at r (j + i) ≡ time_at q (j + i)
  time_same i h = ap₂ little_endian_value (byte_same i (omega arith)) (rw add-suc at (part_same (time_width - 1) (suc i) (omega arith)))

times_same : (t r q : List ℕ) → bytes_at r starts_place (time_width * clocks t) ≡ bytes_at q starts_place (time_width * clocks t) → starts_in t r ≡ starts_in t q
times_same t r q e =
    tabulate-same (λ c. time_at r (starts_place + time_width * c)) (λ c. time_at q (starts_place + time_width * c)) 0 (clocks t) (λ c a b. time_same r q starts_place (time_width * clocks t) e (time_width * c) (omega arith))

time_small : (r : List ℕ) → Bytes r → (i : ℕ) → time_at r i < time_limit
time_small r small i = omega (arith, small i, small (suc i), small (suc (suc i)), small (suc (suc (suc i))))

times_read : (t r xs : List ℕ) → length xs ≡ clocks t → ((c : ℕ) → c < length xs → get_or xs c 0 < time_limit) → starts_place + time_width * clocks t ≤ length r → bytes_at r starts_place (time_width * clocks t) ≡ flat (little_endian time_width) xs → starts_in t r ≡ xs
times_read t r xs n small long e =
    rw (← n) (times_back r xs (drop (starts_place + time_width * clocks t) r) starts_place 0 (rw e at (drop_bytes r starts_place (time_width * clocks t) long)) small)

-- "The phase becomes 1 and the time becomes the last time"; the marks are those that the check leaves, and all else stays
module _ (t r : List ℕ) (time room : ℕ) (h : offer_refusal t r time room ≡ 0) where
  abbrev offer_stores : List (ℕ × List ℕ)
  offer_stores = (0, offered ∷ []) ∷ (1, little_endian time_width time) ∷ (5, checked_marks t r time) ∷ []

  offer_fitting : Fitting (fields t) offer_stores
  offer_fitting = (omega arith, refl, (omega arith, refl, (omega arith, length_checked t _ 0 (marks_in t r) 0 ∙ length_bytes r marks_place (parts t), tt)))

  pub offered_record_lem : time < time_limit → Fields t (offered_into t r time room) offered time (estimate_in t r) (started_in t r) (starts_in t r) (checked_marks t r time) (drop record_length r)
  unfolding offered_into
  offered_record_lem fits =
      let a = put_all (fields t) (in_order t (offer_tests_lem t r time room h).0) offer_stores offer_fitting r (allowed_long t r (offer_tests_lem t r time room h).1.0) in
      rw h
      (record {
        phase_is = ap (λ (cs : List (List ℕ)). get_or (get_or cs 0 []) 0 0) a.1;
        time_is = time_back (offered_record t r time) time_place time (ap (λ (cs : List (List ℕ)). get_or cs 1 []) a.1) fits;
        estimate_is = ap (λ (cs : List (List ℕ)). get_or cs 2 []) a.1;
        started_is = ap (λ (cs : List (List ℕ)). get_or cs 3 []) a.1;
        starts_are = times_same t (offered_record t r time) r (ap (λ (cs : List (List ℕ)). get_or cs 4 []) a.1);
        marks_are = ap (λ (cs : List (List ℕ)). get_or cs 5 []) a.1;
        more_is = a.2;
      })

  -- "entries beyond V, K and N" and the bytes after the record stay, each in its place
  pub offered_spare : (i : ℕ) → Spare t i → get_or (offered_into t r time room) i 0 ≡ get_or r i 0
  unfolding offered_into
  offered_spare i s = rw h (put_outside (fields t) i (spare_outside t (offer_tests_lem t r time room h).0 i s) offer_stores offer_fitting r)

  pub offered_length : length (offered_into t r time room) ≡ length r
  unfolding offered_into
  offered_length = rw h (put_length (fields t) offer_stores r)

-- "If the root ends, phase is 2, else 0"; "The new estimate is stored"; clocks and marks are those of the settling, and all else stays
module _ (t r est : List ℕ) (h : settle_refusal t r est ≡ 0) where
  times_small : Bytes r → (c : ℕ) → c < clocks t → get_or (settled_starts t r) c 0 < time_limit
  times_small bytes =
      each_after (clocks t) (last_time r) (starting_leaves t r) (starts_in t r) (λ x. x < time_limit) (time_small r bytes time_place)
      (λ c l. rw get_or-tabulate (time_small r bytes (starts_place + time_width * (0 + c))))

  abbrev settle_stores : List (ℕ × List ℕ)
  settle_stores = (0, cond (root_ended (settled_marks t r est)) finished waiting ∷ []) ∷ (2, est) ∷ (3, settled_flags t r) ∷ (4, flat (little_endian time_width) (settled_starts t r)) ∷ (5, settled_marks t r est) ∷ []

  length_starts : length (settled_starts t r) ≡ clocks t
  length_starts = length_after (clocks t) (last_time r) (starting_leaves t r) (starts_in t r)

  settle_fitting : Fitting (fields t) settle_stores
  settle_fitting =
      let w : length (flat (little_endian time_width) (settled_starts t r)) ≡ time_width * clocks t = rw length_starts at (length_times (settled_starts t r)) in
      (omega arith, refl, (omega arith, (estimate_fits t est (settle_tests_lem t r est h).1.1.1.1.0).0, (omega arith, length_after (clocks t) started_flag (starting_leaves t r) (started_in t r), (omega arith, w, (omega arith, length_settled t _ 0 (marks_in t r) ∙ length_bytes r marks_place (parts t), tt)))))

  -- a time is read back where the record is one of bytes
  pub settled_record_lem : Bytes r
      → Fields t (settled_into t r est) (cond (root_ended (settled_marks t r est)) finished waiting) (last_time r) est (settled_flags t r) (settled_starts t r) (settled_marks t r est) (drop record_length r)
  unfolding settled_into
  settled_record_lem bytes =
      let order = in_order t (settle_tests_lem t r est h).0 in
      let a = put_all (fields t) order settle_stores settle_fitting r (allowed_long t r (settle_tests_lem t r est h).1.0) in
      rw h
      (record {
        phase_is = settled_phase t r est h;
        time_is = time_same (settled_record t r est) r time_place time_width (ap (λ (cs : List (List ℕ)). get_or cs 1 []) a.1) 0 (omega arith);
        estimate_is = ap (λ (cs : List (List ℕ)). get_or cs 2 []) a.1;
        started_is = ap (λ (cs : List (List ℕ)). get_or cs 3 []) a.1;
        starts_are = times_read t (settled_record t r est) (settled_starts t r) length_starts (λ c l. times_small bytes c (rw length_starts at l)) (omega (arith, a.0, (field_within 0 (fields t) order 4 (omega arith)).1)) (ap (λ (cs : List (List ℕ)). get_or cs 4 []) a.1);
        marks_are = ap (λ (cs : List (List ℕ)). get_or cs 5 []) a.1;
        more_is = a.2;
      })

  pub settled_spare : (i : ℕ) → Spare t i → get_or (settled_into t r est) i 0 ≡ get_or r i 0
  unfolding settled_into
  settled_spare i s = rw h (put_outside (fields t) i (spare_outside t (settle_tests_lem t r est h).0 i s) settle_stores settle_fitting r)

  pub settled_length : length (settled_into t r est) ≡ length r
  unfolding settled_into
  settled_length = rw h (put_length (fields t) settle_stores r)
