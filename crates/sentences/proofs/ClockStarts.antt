-- What becomes of each clock at a settling, by part number, and what follows for every record that is allowed.
use Prim.Native.Nat.{ℕ, ◌≤◌, ◌<◌}
use native.Mathlib.Omega.{arith}
use mathlib.Core.Path.{◌≡◌, refl, sym, ◌∙◌}
use mathlib.Core.Logic.{◌↔◌, ◌⊎◌, inl, inr}
use mathlib.Core.Bool.{Bool, true, false, cond, or-true, false≢true}
use mathlib.Core.List.{List}
use lib.Dec.{eqb}
use lib.ListN.{get_or}
use borrow.Author.Tests.{eqb-true, eq-eqb}
use Rattle.base.specs.Lists.{any}
use Rattle.base.proofs.Lists.{and_left, and_right}
use Rattle.meaning.specs.declared.Entry.{Entry}
use Rattle.meaning.specs.declared.Form.TheVariants.{Table}
use Rattle.meaning.specs.declared.kinds.Kind.TheVariants.{Start as START}
use Rattle.meaning.specs.Program.{clocks, entry_at}
use Rattle.meaning.specs.Table.{operand_of}
use Rattle.meaning.specs.Record.{last_time, started_in, starts_in, marks_in}
use Rattle.meaning.specs.Cycle.{is_kind, is_leaf, leaves_from, starts_clock, clocks_after}
use Rattle.meaning.proofs.Clocks.{clock_after}
use Rattle.sentences.specs.Marks.{Started, StartAt}
use Rattle.sentences.specs.Allowed.{AllowedRecord}
use Rattle.sentences.specs.Stepping.{SettlingSteps}
use Rattle.sentences.proofs.LeavesAt.{leaf_marked}

start_leaf : (c : ℕ) (e : Entry) → starts_clock c e ≡ true → is_leaf e ≡ true
start_leaf c e h = rw (and_left (is_kind START e) (eqb e.operand.b1 c) h, or-true)

-- one of the marked leaves starts a clock exactly where some marked START does
start_marked : (t ms : List ℕ) (c : ℕ) → (any (starts_clock c) (leaves_from t 0 ms) ≡ true) ↔ ((p : ℕ) × StartAt t ms c p)
start_marked t ms c =
    let both = leaf_marked (starts_clock c) (start_leaf c) t ms in (
      λ h.
          let (p, (l, a, s)) = both.0 h in
          (p, (l, a, and_left (is_kind START (entry_at Table t p)) (eqb (operand_of t p).b1 c) s, eqb-true (operand_of t p).b1 c (and_right (is_kind START (entry_at Table t p)) (eqb (operand_of t p).b1 c) s))),
      λ (p, (l, a, s, e)). both.1 (p, (l, a, rw (s, eq-eqb (operand_of t p).b1 c e))),
    )

-- some marked START names a clock, or none does
pub named_or_not : (t ms : List ℕ) (c : ℕ) → ((p : ℕ) × StartAt t ms c p) ⊎ ((p : ℕ) → StartAt t ms c p → ⊥)
named_or_not t ms c = go (any (starts_clock c) (leaves_from t 0 ms)) refl
  where
    go : (b : Bool) → any (starts_clock c) (leaves_from t 0 ms) ≡ b → ((p : ℕ) × StartAt t ms c p) ⊎ ((p : ℕ) → StartAt t ms c p → ⊥)
    go true e = inl ((start_marked t ms c).0 e)
    go false e = inr (λ p s. false≢true (sym e ∙ (start_marked t ms c).1 (p, s)))

-- The flag or the start of clock c, where a marked START sets it to x
module _ (t ms had : List ℕ) (x c : ℕ) (below : c < clocks t) where
  abbrev after : ℕ
  after = get_or (clocks_after (clocks t) (leaves_from t 0 ms) x had) c 0

  pub named_set : (p : ℕ) → StartAt t ms c p → after ≡ x
  named_set p s = clock_after (clocks t) x (leaves_from t 0 ms) had c below ∙ rw ((start_marked t ms c).1 (p, s))

  pub unnamed_kept : ((p : ℕ) → StartAt t ms c p → ⊥) → after ≡ get_or had c 0
  unnamed_kept none = clock_after (clocks t) x (leaves_from t 0 ms) had c below ∙ go (any (starts_clock c) (leaves_from t 0 ms)) refl
    where
      go : (b : Bool) → any (starts_clock c) (leaves_from t 0 ms) ≡ b → cond b x (get_or had c 0) ≡ get_or had c 0
      go true e = absurd (let (p, s) = (start_marked t ms c).0 e in none p s)
      go false e = refl

-- What a settling leaves of the clocks
module _ (t r est r' : List ℕ) (s : SettlingSteps t r est r') (c : ℕ) (below : c < clocks t) where
  -- a started clock is never unstarted
  pub stays_started : Started t r c → Started t r' c
  stays_started h = go (named_or_not t (marks_in t r) c)
    where
      go : ((p : ℕ) × StartAt t (marks_in t r) c p) ⊎ ((p : ℕ) → StartAt t (marks_in t r) c p → ⊥) → Started t r' c
      go (inl (p, a)) = rw (s.clock_set c below p a).0
      go (inr n) = rw (s.clock_kept c below n).0 h

  -- what an allowed record says of a clock holds afterwards: a start is never after the last time
  pub stays_allowed : AllowedRecord t r
      → (get_or (started_in t r') c 0 ≤ 1) × (get_or (started_in t r') c 0 ≡ 0 → get_or (starts_in t r') c 0 ≡ 0) × (0 < get_or (started_in t r') c 0 → get_or (starts_in t r') c 0 ≤ last_time r')
  stays_allowed allowed = rw s.time_kept (go (named_or_not t (marks_in t r) c))
    where
      go : ((p : ℕ) × StartAt t (marks_in t r) c p) ⊎ ((p : ℕ) → StartAt t (marks_in t r) c p → ⊥)
          → (get_or (started_in t r') c 0 ≤ 1) × (get_or (started_in t r') c 0 ≡ 0 → get_or (starts_in t r') c 0 ≡ 0) × (0 < get_or (started_in t r') c 0 → get_or (starts_in t r') c 0 ≤ last_time r)
      go (inl (p, a)) = rw ((s.clock_set c below p a).0, (s.clock_set c below p a).1) (omega arith, λ e. absurd (omega arith), λ l. omega arith)
      go (inr n) = rw ((s.clock_kept c below n).0, (s.clock_kept c below n).1) (allowed.flags_named c below, allowed.unstarted_zero c below, allowed.started_before c below)
