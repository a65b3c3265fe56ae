-- Parts joined: one stays as it is, and more get a part over them.
use Prim.Native.Nat.{ℕ, suc, ◌+◌, ◌-◌, ◌*◌}
use mathlib.Core.Path.{◌≡◌, refl, ◌∙◌}
use mathlib.Core.List.{List, [], ◌∷◌, ◌++◌, append-nil}
use native.Mathlib.Omega.{arith}
use lib.ListN.{length}
use lib.Seq.{sets}
use Rattle.base.specs.Lists.{concat}
use Rattle.base.proofs.Lists.{length_pieces}
use Rattle.meaning.specs.declared.Entry.{Entry}
use Rattle.meaning.specs.Kinds.{number_of}
use Rattle.text_parts.specs.declared.Level.{Level}
use Rattle.text_parts.specs.Stored.{part_length, clamped, stored_entry, stored, Stands, moved_up, joining_kind, join_entries, Joined}
use Rattle.text_parts.proofs.Room.{room_filled}

module _ (l : Level) (n m count : ℕ) (b : List ℕ) where
  one_stands : (b₀ : List ℕ) (es : List Entry) (ess : List (List Entry)) → length ess ≡ 0 → Stands b₀ n b m (es ++ concat ess) → Stands b₀ n b m (join_entries l es ess)
  unfolding join_entries
  one_stands b₀ es [] none stands = rw append-nil at stands
  one_stands b₀ es (fs ∷ fss) none stands = absurd (omega arith)

  pub one_joined : count ≡ 1 → Joined l n b m count m b
  one_joined one =
      record {
        joined = λ b₀ es ess stands counted. one_stands b₀ es ess (omega arith) stands;
        one_more = omega arith;
        alone = λ e. refl;
      }

  -- b₁ has room for a part, and b' has the part there
  module _ (b₁ b' : List ℕ) (k c : ℕ) (not-one : count ≡ 1 → ⊥) (room : b₁ ≡ moved_up b (part_length * n) (part_length * m)) (k-is : k ≡ number_of (joining_kind l)) (c-is : c ≡ clamped count) (part : b' ≡ sets b₁ (part_length * n) (k ∷ c ∷ 0 ∷ 0 ∷ 0 ∷ [])) where
    more_stand : (b₀ : List ℕ) (es : List Entry) (ess : List (List Entry)) → Stands b₀ n b m (es ++ concat ess) → count ≡ suc (length ess) → Stands b₀ n b' (m + 1) (join_entries l es ess)
    unfolding join_entries clamped
    more_stand b₀ es [] stands counted = absurd (not-one counted)
    more_stand b₀ es (fs ∷ fss) stands counted =
        let xs : List Entry = es ++ concat (fs ∷ fss) in
        let long : length (stored xs) ≡ part_length * m - part_length * n = length_pieces stored_entry part_length (λ e. refl) xs ∙ omega arith in
        record {
          buffer_is =
              room_filled b₀ b b₁ b' (k ∷ c ∷ 0 ∷ 0 ∷ 0 ∷ []) (stored xs) (part_length * n) (part_length * m) stands.buffer_is long room refl part
              ∙ rw (k-is, c-is, counted);
          parts_are = omega arith;
        }

    pub more_joined : Joined l n b m count (m + 1) b'
    more_joined = record { joined = more_stand; one_more = omega arith; alone = λ e. absurd (not-one e) }
