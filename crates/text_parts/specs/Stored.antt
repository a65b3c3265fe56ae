-- Parts as a reader of a text stores them: entry after entry, in a buffer.
use Rattle.std.specs.Prelude.{ℕ, suc, ◌+◌, ◌-◌, ◌*◌, ◌≤◌, ◌≡◌, cond, List, [], ◌∷◌, ◌++◌, ltb, length}
use Rattle.std.proofs.lemmas.List.Edits.{sets}
use Rattle.base.specs.Lists.{concat, flat, bytes_at}
use Rattle.meaning.specs.declared.Operand.{Operand}
use Rattle.meaning.specs.declared.Entry.{Entry}
use Rattle.meaning.specs.Sizes.{byte_values, kind_length, operand_length}
use Rattle.meaning.specs.declared.kinds.Kind.{Kind}
use Rattle.meaning.specs.declared.kinds.Kind.TheVariants.{Seq as SEQ, Par as PAR}
use Rattle.meaning.specs.Kinds.{number_of}
use Rattle.meaning.specs.Tree.{count_operand}
use Rattle.text_parts.specs.declared.Level.{Level}
use Rattle.text_parts.specs.declared.Level.TheVariants.{Steps, Sequences}

abbrev pub part_length : ℕ
part_length = kind_length + operand_length

-- a number that no byte holds is stored as the largest byte
unfoldable pub clamped : ℕ → ℕ
clamped x = cond (ltb x byte_values) x (byte_values - 1)

abbrev pub stored_entry : Entry → List ℕ
stored_entry e = e.kind ∷ clamped e.operand.b0 ∷ clamped e.operand.b1 ∷ e.operand.b2 ∷ e.operand.b3 ∷ []

abbrev pub stored : List Entry → List ℕ
stored es = flat stored_entry es

-- the entries es stand in b from part n on and before part m; all else is as in b₀
pub record Stands (b₀ : List ℕ) (n : ℕ) (b : List ℕ) (m : ℕ) (es : List Entry) : Type 0 where
  pub buffer_is : b ≡ sets b₀ (part_length * n) (stored es)
  pub parts_are : m ≡ n + length es

-- b with the bytes from place `from` on and before place `to` moved up by the length of a part, and what they leave as it was
abbrev pub moved_up : List ℕ → ℕ → ℕ → List ℕ
moved_up b from to = sets b (from + part_length) (bytes_at b from (to - from))

-- "Steps joined by the same sign make one part": a SEQ of steps, a PAR of sequences
unfoldable pub joining_kind : Level → Kind
joining_kind Steps = SEQ
joining_kind Sequences = PAR

abbrev pub entry : Kind → Operand → Entry
entry k o = record { kind = number_of k; operand = o }

-- the entries of the first and of those that are joined to it, and of the part over them
unfoldable pub join_entries : Level → List Entry → List (List Entry) → List Entry
join_entries l es [] = es
join_entries l es (fs ∷ fss) = entry (joining_kind l) (count_operand (suc (suc (length fss)))) ∷ (es ++ concat (fs ∷ fss))

-- Joining `count` parts that stand from part n on, with what is inside them, before part m; r is the number of parts then
pub record Joined (l : Level) (n : ℕ) (b : List ℕ) (m count r : ℕ) (b' : List ℕ) : Type 0 where
  pub joined : (b₀ : List ℕ) (es : List Entry) (ess : List (List Entry)) → Stands b₀ n b m (es ++ concat ess) → count ≡ suc (length ess) → Stands b₀ n b' r (join_entries l es ess)
  pub one_more : r ≤ m + 1
  pub alone : count ≡ 1 → r ≡ m
