-- Whether something is left that can end or decide: what a turn, a turn that stops and the end of the loop make of it.
use Prim.Native.Nat.{ℕ, zero, suc, ◌+◌, ◌-◌, ◌≤◌, ◌<◌}
use native.Mathlib.Nat.{zero-add}
use native.Mathlib.Numerals.{add-one}
use native.Mathlib.Omega.{arith}
use mathlib.Core.Path.{◌≡◌, refl, sym, ◌∙◌}
use mathlib.Core.Bool.{Bool, true, false, cond, not, ◌&&◌, ◌||◌}
use mathlib.Core.List.{List, [], ◌∷◌}
use lib.Dec.{eqb, leb}
use lib.ListN.{length, get_or, take, drop, drop_of_length-le}
use lib.Seq.{drop-cons}
use borrow.Author.Tests.{le-leb, lt-leb, ne_eqb}
use Rattle.std.specs.Prelude.{Option, None, Some, is_some}
use Rattle.base.specs.Lists.{any, bytes_at}
use Rattle.base.proofs.Stores.{length_bytes, get_or_bytes}
use Rattle.meaning.specs.declared.Form.TheVariants.{Table}
use Rattle.meaning.specs.declared.kinds.Kind.{Kind}
use Rattle.meaning.specs.declared.kinds.Kind.TheVariants.{Unknown as UNKNOWN, Goal as GOAL, Start as START, Wait as WAIT, Seq as SEQ, Par as PAR, Maintain as MAINTAIN, Choice as CHOICE, Repeat as REPEAT}
use Rattle.meaning.specs.Kinds.{kind_of, number_of, known}
use Rattle.meaning.specs.Program.{parts, entry_at}
use Rattle.meaning.specs.Table.{end_at, inside_of}
use Rattle.meaning.specs.Record.{is_mark}
use Rattle.meaning.specs.Cycle.{is_kind, is_leaf, works_from}
use Rattle.program_table.proofs.KindTests.{kind_byte, kind_byte_not}
use Rattle.run_settle.specs.Deciding.{leaf, pending_after, passed, shows, deciding, works_with}

-- a leaf by its kind byte
leaf_byte : (b : ℕ) → leaf (kind_of b) ≡ (eqb b (number_of GOAL) || (eqb b (number_of START) || eqb b (number_of WAIT)))
unfolding leaf known
leaf_byte b = go (kind_of b) refl
  where
    none : (kind_of b ≡ GOAL → ⊥) → (kind_of b ≡ START → ⊥) → (kind_of b ≡ WAIT → ⊥) → false ≡ (eqb b (number_of GOAL) || (eqb b (number_of START) || eqb b (number_of WAIT)))
    none f g h = rw (kind_byte_not GOAL b f, kind_byte_not START b g, kind_byte_not WAIT b h)

    go : (k : Kind) → kind_of b ≡ k → leaf k ≡ (eqb b (number_of GOAL) || (eqb b (number_of START) || eqb b (number_of WAIT)))
    go GOAL e = rw (kind_byte GOAL b refl e)
    go START e = rw (kind_byte START b refl e, kind_byte_not GOAL b (λ f. cc))
    go WAIT e = rw (kind_byte WAIT b refl e, kind_byte_not GOAL b (λ f. cc), kind_byte_not START b (λ f. cc))
    go UNKNOWN e = none (λ f. cc) (λ f. cc) (λ f. cc)
    go SEQ e = none (λ f. cc) (λ f. cc) (λ f. cc)
    go PAR e = none (λ f. cc) (λ f. cc) (λ f. cc)
    go MAINTAIN e = none (λ f. cc) (λ f. cc) (λ f. cc)
    go CHOICE e = none (λ f. cc) (λ f. cc) (λ f. cc)
    go REPEAT e = none (λ f. cc) (λ f. cc) (λ f. cc)

-- One part, by what the code reads of it
module _ (t m : List ℕ) (p k : ℕ) (pending : Option ℕ) (k-is : k ≡ p) where
  pub pending_kept : get_or m k 0 ≡ 0 → pending ≡ pending_after t p (get_or m p 0) pending
  unfolding pending_after
  pending_kept z = rw (rw k-is at z)

  pub shows_unmarked : get_or m k 0 ≡ 0 → not (eqb (get_or m k 0) 0) ≡ shows t p (get_or m p 0) pending
  unfolding shows
  shows_unmarked z = rw (z, rw k-is at z)

  module _ (e : Kind) (e-is : e ≡ kind_of (entry_at Table t p).kind) where
    module _ (a : Bool) (set : get_or m k 0 ≡ 0 → ⊥) (a-is : a ≡ leaf e) where
      pub shows_leaf : a ≡ true → a ≡ shows t p (get_or m p 0) pending
      unfolding shows
      shows_leaf h = rw (ne_eqb (get_or m p 0) 0 (rw k-is at set), ← leaf_byte (entry_at Table t p).kind, ← e-is, ← a-is, h)

      pub shows_passed : (b : Bool) → a ≡ false → b ≡ passed pending p → b ≡ shows t p (get_or m p 0) pending
      unfolding shows
      shows_passed b h b-is = rw (ne_eqb (get_or m p 0) 0 (rw k-is at set), ← leaf_byte (entry_at Table t p).kind, ← e-is, ← a-is, h, b-is)

    pub pending_choice : (y : ℕ) → (get_or m k 0 ≡ 0 → ⊥) → e ≡ CHOICE → y ≡ end_at t p → Some y ≡ pending_after t p (get_or m p 0) pending
    unfolding pending_after known
    pending_choice y n c y-is = rw (ne_eqb (get_or m p 0) 0 (rw k-is at n), kind_byte CHOICE (entry_at Table t p).kind refl (sym e-is ∙ c), y-is)

    pub pending_none : (get_or m k 0 ≡ 0 → ⊥) → (e ≡ CHOICE → ⊥) → None ≡ pending_after t p (get_or m p 0) pending
    unfolding pending_after
    pending_none n c = rw (ne_eqb (get_or m p 0) 0 (rw k-is at n), kind_byte_not CHOICE (entry_at Table t p).kind (λ f. c (e-is ∙ f)))

-- One turn. Of the marks before an end, one that is not set may be left out, and one that is set is enough
module _ (e p m : ℕ) (ms : List ℕ) where
  any_past : is_mark m ≡ false → any is_mark (take (e - p) (m ∷ ms)) ≡ any is_mark (take (e - suc p) ms)
  any_past h = go (e - p) refl
    where
      go : (k : ℕ) → e - p ≡ k → any is_mark (take k (m ∷ ms)) ≡ any is_mark (take (e - suc p) ms)
      go zero q = let z : e - suc p ≡ 0 = omega arith in rw z
      go (suc k) q = let z : e - suc p ≡ k = omega arith in rw (h, z)

  any_here : is_mark m ≡ true → not (any is_mark (take (e - p) (m ∷ ms))) ≡ leb e p
  any_here h = go (e - p) refl
    where
      go : (k : ℕ) → e - p ≡ k → not (any is_mark (take k (m ∷ ms))) ≡ leb e p
      go zero q = sym (le-leb e p (omega arith))
      go (suc k) q = rw (h, lt-leb e p (omega arith))

regroup : (d l x w : Bool) → (d || ((l || x) || w)) ≡ ((l || d) || (x || w))
regroup true true x w = refl
regroup true false x w = refl
regroup false true x w = refl
regroup false false x w = refl

module _ (t : List ℕ) (p m : ℕ) (ms : List ℕ) where
  abbrev later : Bool
  later = not (any is_mark (take (inside_of t p) ms))

  -- a CHOICE that is pending from here on
  decides_later : (c : Bool) → deciding (cond c (Some (end_at t p)) None) (suc p) ms ≡ (c && later)
  decides_later true = refl
  decides_later false = refl

  -- one that is pending already is deciding exactly where this part comes after its end, if this part is marked
  decides_here : (e : Option ℕ) → is_mark m ≡ true → deciding e p (m ∷ ms) ≡ passed e p
  decides_here None b = refl
  decides_here (Some e) b = any_here e p m ms b

  decides_still : (e : Option ℕ) → is_mark m ≡ false → deciding e p (m ∷ ms) ≡ deciding e (suc p) ms
  decides_still None b = refl
  decides_still (Some e) b = rw (any_past e p m ms b)

  works_turn : (e : Option ℕ) → works_with t e p (m ∷ ms) ≡ (shows t p m e || works_with t (pending_after t p m e) (suc p) ms)
  unfolding works_with works_from shows pending_after
  works_turn e = go (is_mark m) refl
    where
      go : (b : Bool) → is_mark m ≡ b
          → (deciding e p (m ∷ ms) || ((b && (is_leaf (entry_at Table t p) || (is_kind CHOICE (entry_at Table t p) && later))) || works_from t (suc p) ms))
          ≡ ((b && (is_leaf (entry_at Table t p) || passed e p)) || (deciding (cond b (cond (is_kind CHOICE (entry_at Table t p)) (Some (end_at t p)) None) e) (suc p) ms || works_from t (suc p) ms))
      go true b = rw (decides_here e b, decides_later (is_kind CHOICE (entry_at Table t p))) (regroup (passed e p) (is_leaf (entry_at Table t p)) (is_kind CHOICE (entry_at Table t p) && later) (works_from t (suc p) ms))
      go false b = rw (decides_still e b)

-- The loop
module _ (t m : List ℕ) (p n : ℕ) (n-is : n ≡ parts t) where
  module _ (e : Option ℕ) (b x : Bool) (h : p < n) (b-is : b ≡ shows t p (get_or m p 0) e) (i : works_with t e p (drop p (bytes_at m 0 (parts t))) ≡ x) where
    turned : (b || works_with t (pending_after t p (get_or m p 0) e) (suc p) (drop (suc p) (bytes_at m 0 (parts t)))) ≡ x
    turned =
        let l : p < length (bytes_at m 0 (parts t)) = omega (arith, length_bytes m 0 (parts t)) in
        let k : get_or (bytes_at m 0 (parts t)) p 0 ≡ get_or m p 0 = get_or_bytes m 0 (parts t) p (omega arith) ∙ rw zero-add in
        rw b-is (sym (works_turn t p (get_or m p 0) (drop (suc p) (bytes_at m 0 (parts t))) e) ∙ (rw (drop-cons (bytes_at m 0 (parts t)) p 0 l, k) at i))

    pub works_shown : b ≡ true → true ≡ x
    works_shown f = rw f at turned

    pub works_next : (o : Option ℕ) → b ≡ false → o ≡ pending_after t p (get_or m p 0) e → works_with t o (p + 1) (drop (p + 1) (bytes_at m 0 (parts t))) ≡ x
    works_next o f o_is = rw (o_is, add-one p) (rw f at turned)

  pub works_end : (e : Option ℕ) (x : Bool) → n ≤ p → works_with t e p (drop p (bytes_at m 0 (parts t))) ≡ x → is_some e ≡ x
  unfolding works_with works_from
  works_end e x h i =
      let d : drop p (bytes_at m 0 (parts t)) ≡ [] = drop_of_length-le (bytes_at m 0 (parts t)) {i = p} (omega (arith, length_bytes m 0 (parts t))) in
      sym (ended e) ∙ (rw d at i)
    where
      ended : (e : Option ℕ) → (deciding e p [] || false) ≡ is_some e
      ended None = refl
      ended (Some e) = go (e - p)
        where
          go : (k : ℕ) → (not (any is_mark (take k [])) || false) ≡ true
          go zero = refl
          go (suc k) = refl

pub works_begin : (t ms : List ℕ) → works_with t None 0 (drop 0 ms) ≡ works_from t 0 ms
unfolding works_with
works_begin t ms = refl
