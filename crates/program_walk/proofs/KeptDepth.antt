-- What is asked of the walk that reads a file (document 02, R-3), said of what the contracts of `look`, `take` and `parts_end` ask for: `Next`, each step of `walk_steps` at its turn.
use Prim.Native.Nat.{ℕ, zero, suc, ◌+◌, ◌-◌, ◌*◌, ◌≤◌, ◌<◌}
use native.Mathlib.Omega.{arith}
use mathlib.Core.Path.{◌≡◌, refl, sym, ap, ◌∙◌}
use mathlib.Core.Bool.{true}
use mathlib.Core.Option.{some}
use mathlib.Core.List.{List, [], ◌∷◌, ◌++◌, append-nil}
use lib.ListN.{length, get_or, drop, length-drop}
use lib.Seq.{drop-append_seam}
use borrow.Author.Tests.{le-leb}
use Rattle.base.specs.Lists.{all}
use Rattle.meaning.specs.declared.Form.TheVariants.{File}
use Rattle.meaning.specs.Sizes.{max_depth}
use Rattle.meaning.specs.Tree.{Part, size, depth}
use Rattle.meaning.specs.Program.{parts, variables, clocks, entries, entry_allowed, tree_of, trees, program_refusal}
use Rattle.meaning.specs.Table.{compiled}
use Rattle.meaning.proofs.Trees.{size_law}
use Rattle.meaning.proofs.Files.{single_part, accepted}
use Rattle.meaning.proofs.Tables.{compiled_is}
use Rattle.program_walk.specs.declared.walk.Way.TheVariants.{Down}
use Rattle.program_walk.specs.Walk.{any_end, parts_end}
use Rattle.program_walk.specs.Steps.{Step, down, tree_steps, around, around_by, walk_steps, Next, taking}
use Rattle.program_walk.proofs.TreeSteps.{Each, each_left, steps_paired, Kept, steps_kept, Among, steps_enter}
use Rattle.program_walk.proofs.Entries.{each_entry}
use Rattle.program_walk.proofs.Ending.{Fine, whole_reached}
use Rattle.program_walk.proofs.Enclosing.{around_ends}
use Rattle.program_walk.proofs.FileSteps.{walk_bounded, walk_over}

-- "the walk takes at most 2 × N steps, down and up together": no step comes after so many
pub steps_bounded : (s : List ℕ) (k : ℕ) (m : Step) (ms : List Step) → Next s k (m ∷ ms) → suc k ≤ 2 * parts s
steps_bounded s k m ms n = omega (arith, ap length n.is, length-drop k (walk_steps s), walk_bounded s)

each_at : (P : Step → Type 0) (k : ℕ) (ms : List Step) (m : Step) (later : List Step) → Each P ms → drop k ms ≡ m ∷ later → P m
each_at P zero [] m later h is = absurd (omega (arith, ap length is))
each_at P zero (x ∷ ms) m later h is = let same : x ≡ m = cc is in rw same at h.0
each_at P (suc k) [] m later h is = absurd (omega (arith, ap length is))
each_at P (suc k) (x ∷ ms) m later h is = each_at P k ms m later h.1 is

-- a walk that finds where a tree ends has taken all steps over it, two for each part
pub steps_whole : (s : List ℕ) (t : Part) → tree_of File s ≡ some t → (parts_end File s any_end max_depth 1 0 ≡ 0 → ⊥) → (walk_steps s ≡ tree_steps t) × (length (walk_steps s) ≡ 2 * size t)
unfolding tree_of
steps_whole s t tree some_end =
    let w = walk_over s t (single_part (trees (entries File s)) t tree) in
    let all : tree_steps t ≡ walk_steps s = w.is ∙ ap (λ (ms : List Step). walk_steps s ++ ms) (w.complete some_end) ∙ append-nil (walk_steps s) in
    (sym all, omega (arith, ap length all, steps_paired t 0 1))

-- what is known of a step of the walk in a file that forms one tree
step_kept : (s : List ℕ) (t : Part) → tree_of File s ≡ some t → (k : ℕ) (m : Step) (ms : List Step) → Next s k (m ∷ ms) → Kept 0 1 (size t) (around t) m
unfolding tree_of
step_kept s t tree k m ms n =
    let w = walk_over s t (single_part (trees (entries File s)) t tree) in
    let all_kept : Each (Kept 0 1 (size t) (around t)) (walk_steps s ++ w.rest) = rw w.is at (steps_kept t 0 1) in
    each_at (Kept 0 1 (size t) (around t)) k (walk_steps s) m (ms ++ n.later) (each_left (Kept 0 1 (size t) (around t)) (walk_steps s) w.rest all_kept) n.is

-- "in a file that forms one tree the depth kept at each part is one more than the number of parts it stands in", by the tree, also where it is too deep
pub depth_kept : (s : List ℕ) (t : Part) → tree_of File s ≡ some t → (k : ℕ) (m : Step) (ms : List Step) → Next s k (m ∷ ms) → m.kept ≡ suc (get_or (around t) m.part 0)
depth_kept s t tree k m ms n = let i : m.part - 0 ≡ m.part = omega arith in omega (arith, rw i at (step_kept s t tree k m ms n).depth_is)

-- and by the ends in the table of a file that is accepted
pub depth_by_ends : (s : List ℕ) → program_refusal File s ≡ 0 → (k : ℕ) (m : Step) (ms : List Step) → Next s k (m ∷ ms) → m.kept ≡ suc (around_by (compiled File s) m.part)
depth_by_ends s h k m ms n =
    let a = accepted File s h in
    let inside : m.part < size a.0 = omega (arith, (step_kept s a.0 a.1 k m ms n).before) in
    rw (compiled_is File s a.0 a.1, around_ends (variables s) (clocks s) a.0 a.2.within m.part inside) (depth_kept s a.0 a.1 k m ms n)

-- in such a file the walk finds the end
ends_there : (s : List ℕ) → program_refusal File s ≡ 0 → parts_end File s any_end max_depth 1 0 ≡ 0 → ⊥
unfolding tree_of
ends_there s h none =
    let a = accepted File s h in
    let all-allowed : all (entry_allowed (variables s) (clocks s)) (entries File s) ≡ true = rw a.2.entries_are a.2.within.entries_allowed in
    let fine : (p : ℕ) → p < parts s → Fine File s any_end p = λ p b. record { allowed = each_entry File s (entry_allowed (variables s) (clocks s)) all-allowed p b; tested = refl } in
    let reached = whole_reached File s any_end fine max_depth a.0 (single_part (trees (entries File s)) a.0 a.1) in
    let end : parts_end File s any_end max_depth 1 0 ≡ 0 + size a.0 = rw (le-leb (depth a.0) max_depth a.2.within.depth_fits) at reached in
    omega (arith, none, end, size_law a.0)

-- with exactly two steps for each part
pub steps_accepted : (s : List ℕ) → program_refusal File s ≡ 0 → length (walk_steps s) ≡ 2 * parts s
steps_accepted s h = let a = accepted File s h in omega (arith, (steps_whole s a.0 a.1 (ends_there s h)).1, a.2.parts_are)

-- and each part is entered, at that depth
pub each_entered : (s : List ℕ) → program_refusal File s ≡ 0 → (p : ℕ) → p < parts s → (k : ℕ) × Next s k (taking Down p (suc (around_by (compiled File s) p)))
each_entered s h p b =
    let a = accepted File s h in
    let inside : p < size a.0 = omega (arith, b, a.2.parts_are) in
    let e : Among (down (0 + p) (1 + get_or (around a.0) p 0)) (tree_steps a.0) = steps_enter a.0 0 1 p inside in
    let number : 0 + p ≡ p = omega arith in
    let depth : 1 + get_or (around a.0) p 0 ≡ suc (around_by (compiled File s) p) = rw (compiled_is File s a.0 a.1, around_ends (variables s) (clocks s) a.0 a.2.within p inside) (omega arith) in
    let m : Step = down p (suc (around_by (compiled File s) p)) in
    let is : walk_steps s ≡ e.front ++ (m ∷ e.rest) = (steps_whole s a.0 a.1 (ends_there s h)).0 ∙ e.is ∙ ap (λ (x : Step). e.front ++ (x ∷ e.rest)) (ap (λ (i : ℕ). down i (1 + get_or (around a.0) p 0)) number ∙ ap (down p) depth) in
    (length e.front, record { later = e.rest; is = ap (drop (length e.front)) is ∙ drop-append_seam e.front (m ∷ e.rest) })
