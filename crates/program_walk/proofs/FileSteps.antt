-- The steps over a file: at most two for each part, whatever the file holds; and where it forms one tree, the first of the steps over that tree, up to where the walk stops.
use Prim.Native.Nat.{ℕ, zero, suc, ◌+◌, ◌-◌, ◌*◌, ◌≤◌, ◌<◌}
use native.Mathlib.Omega.{arith}
use mathlib.Core.Path.{◌≡◌, refl, sym, ap, ◌∙◌}
use mathlib.Core.Bool.{Bool, true, false, cond}
use mathlib.Core.Option.{some}
use mathlib.Core.List.{List, [], ◌∷◌, ◌++◌, map, append_assoc, append-nil}
use lib.Dec.{eqb, ltb}
use lib.ListN.{length, drop, length-append}
use lib.Seq.{drop-drop}
use borrow.Author.Tests.{ltb-true, lt-ltb, eqb-true, eqb-false, ne_eqb}
use Rattle.base.specs.Lists.{sum}
use Rattle.meaning.specs.declared.Form.TheVariants.{File}
use Rattle.meaning.specs.Sizes.{max_depth}
use Rattle.meaning.specs.Tree.{Part, children, size}
use Rattle.meaning.specs.Program.{parts, variables, clocks, entry_at, entries, entry_allowed, trees}
use Rattle.meaning.proofs.Trees.{size_law}
use Rattle.std.specs.Prelude.{Option, None, Some}
use Rattle.program_part.specs.Children.{count_if, children_of}
use Rattle.program_walk.specs.Walk.{TreeAt, along, end_with, any_end, part_end, parts_end}
use Rattle.program_walk.specs.Steps.{Step, down, up, each_steps, tour, tree_steps, if_ended, children_at, inside_steps, part_steps, along_steps, parts_steps, walk_steps}
use Rattle.program_walk.proofs.Standing.{past, stands_below, stands_entry}
use Rattle.program_walk.proofs.TreeSteps.{steps_law, steps_each}

module _ (s : List ℕ) where
  -- Steps over parts from q on that end at e: none beyond the last part, and two for each part that has ended
  record Bounded (q e : ℕ) (ms : List Step) : Type 0 where
    within : length ms ≤ 2 * (parts s - q)
    further : (e ≡ 0 → ⊥) → q ≤ e
    not_beyond : (e ≡ 0 → ⊥) → e ≤ q + (parts s - q)
    paired : (e ≡ 0 → ⊥) → length ms + 2 * q ≡ 2 * e

  AllBounded : (ℕ → ℕ → ℕ) → (ℕ → ℕ → List Step) → Type 0
  AllBounded ends steps = (count q : ℕ) → Bounded q (ends count q) (steps count q)

  stopped : (q : ℕ) (ms : List Step) → length ms ≤ 2 * (parts s - q) → Bounded q 0 ms
  stopped q ms h = record { within = h; further = λ f. absurd (f refl); not_beyond = λ f. absurd (f refl); paired = λ f. absurd (f refl) }

  -- a part adds a step down to the steps of its children, and one up where they end
  inside_bounded : (ends : ℕ → ℕ → ℕ) (steps : ℕ → ℕ → List Step) → AllBounded ends steps → (d p : ℕ) → p < parts s → (c : Option ℕ)
      → Bounded p (end_with ends c p) (down p d ∷ (inside_steps steps c (suc p) ++ if_ended (end_with ends c p) (up p d ∷ [])))
  unfolding AllBounded
  inside_bounded ends steps h d p there None = stopped p (down p d ∷ []) (omega (arith, there))
  inside_bounded ends steps h d p there (Some n) = go (eqb n 0)
    where
      ended : (e : ℕ) → Bounded (suc p) e (steps n (suc p)) → (b : Bool) → eqb e 0 ≡ b → Bounded p e (down p d ∷ (steps n (suc p) ++ cond b [] (up p d ∷ [])))
      ended e k true z =
          let none : e ≡ 0 = eqb-true e 0 z in
          rw none (stopped p (down p d ∷ (steps n (suc p) ++ [])) (omega (arith, there, k.within, length-append (steps n (suc p)) [])))
      ended e k false z =
          let some_end : e ≡ 0 → ⊥ = eqb-false e 0 z in
          let l = length-append (steps n (suc p)) (up p d ∷ []) in
          record {
            within = omega (arith, there, l, k.paired some_end, k.not_beyond some_end);
            further = λ f. omega (arith, k.further some_end);
            not_beyond = λ f. omega (arith, there, k.not_beyond some_end);
            paired = λ f. omega (arith, l, k.paired some_end);
          }

      go : (b : Bool) → Bounded p (cond b (suc p) (ends n (suc p))) (down p d ∷ (cond b [] (steps n (suc p)) ++ if_ended (cond b (suc p) (ends n (suc p))) (up p d ∷ [])))
      go true = rw (ne_eqb (suc p) 0 (λ z. omega arith)) (record { within = omega (arith, there); further = λ f. omega arith; not_beyond = λ f. omega (arith, there); paired = λ f. omega arith })
      go false = ended (ends n (suc p)) (h n (suc p)) (eqb (ends n (suc p)) 0) refl

  part_bounded : (ends : ℕ → ℕ → ℕ) (steps : ℕ → ℕ → List Step) → AllBounded ends steps → (d p : ℕ) → Bounded p (part_end File s any_end ends p) (part_steps s steps d p (part_end File s any_end ends p))
  unfolding part_end part_steps
  part_bounded ends steps h d p = go (ltb p (parts s)) refl
    where
      go : (b : Bool) → ltb p (parts s) ≡ b → Bounded p (cond b (end_with ends (children_at s p) p) 0) (cond b (down p d ∷ (inside_steps steps (children_at s p) (suc p) ++ if_ended (cond b (end_with ends (children_at s p) p) 0) (up p d ∷ []))) [])
      go true t = inside_bounded ends steps h d p (ltb-true p (parts s) t) (children_at s p)
      go false t = stopped p [] (omega arith)

  along_bounded : (end : ℕ → ℕ) (over : ℕ → ℕ → List Step) → ((p : ℕ) → Bounded p (end p) (over p (end p))) → AllBounded (along end) (along_steps end over)
  unfolding AllBounded along along_steps
  along_bounded end over single zero q = record { within = omega arith; further = λ f. omega arith; not_beyond = λ f. omega arith; paired = λ f. omega arith }
  along_bounded end over single (suc count) q = go (along_bounded end over single count (end q)) (eqb (end q) 0) refl
    where
      go : Bounded (end q) (along end count (end q)) (along_steps end over count (end q)) → (b : Bool) → eqb (end q) 0 ≡ b
          → Bounded q (cond b 0 (along end count (end q))) (over q (end q) ++ cond b [] (along_steps end over count (end q)))
      go others true z = stopped q (over q (end q) ++ []) (omega (arith, (single q).within, length-append (over q (end q)) []))
      go others false z =
          let some_end : end q ≡ 0 → ⊥ = eqb-false (end q) 0 z in
          let l = length-append (over q (end q)) (along_steps end over count (end q)) in
          let k = single q in
          record {
            within = omega (arith, l, k.paired some_end, k.not_beyond some_end, k.further some_end, others.within);
            further = λ f. omega (arith, k.further some_end, others.further f);
            not_beyond = λ f. omega (arith, k.further some_end, k.not_beyond some_end, others.not_beyond f);
            paired = λ f. omega (arith, l, k.paired some_end, others.paired f);
          }

  parts_bounded : (levels d : ℕ) → AllBounded (parts_end File s any_end levels) (parts_steps s levels d)
  unfolding AllBounded parts_end parts_steps
  parts_bounded zero d count q = stopped q [] (omega arith)
  parts_bounded (suc levels) d count q =
      along_bounded (part_end File s any_end (parts_end File s any_end levels)) (part_steps s (parts_steps s levels (suc d)) d) (part_bounded (parts_end File s any_end levels) (parts_steps s levels (suc d)) (parts_bounded levels (suc d)) d) count q

  -- "the walk takes at most 2 × N steps, down and up together", whether it comes to the end or stops
  pub walk_bounded : length (walk_steps s) ≤ 2 * parts s
  unfolding walk_steps AllBounded
  walk_bounded = omega (arith, (parts_bounded max_depth 1 1 0).within)

  -- Steps that begin those over trees from q on which end there: all of them, where an end is found
  pub record Begins (e there : ℕ) (ms whole : List Step) : Type 0 where
    pub rest : List Step
    pub is : whole ≡ ms ++ rest
    pub complete : (e ≡ 0 → ⊥) → rest ≡ []
    pub ends : (e ≡ 0 → ⊥) → e ≡ there

  none_ended : (there : ℕ) (ms rest whole : List Step) → whole ≡ ms ++ rest → Begins 0 there ms whole
  none_ended there ms rest whole is = record { rest = rest; is = is; complete = λ f. absurd (f refl); ends = λ f. absurd (f refl) }

  all_taken : (e there : ℕ) (ms whole : List Step) → whole ≡ ms → e ≡ there → Begins e there ms whole
  all_taken e there ms whole is ends = record { rest = []; is = is ∙ sym (append-nil ms); complete = λ f. refl; ends = λ f. ends }

  -- the steps that a part adds to those of its children
  part_begins : (d p e there : ℕ) (ms whole : List Step) → Begins e there ms whole → Begins e there (down p d ∷ (ms ++ if_ended e (up p d ∷ []))) (down p d ∷ (whole ++ (up p d ∷ [])))
  part_begins d p e there ms whole k = go (eqb e 0) refl
    where
      go : (b : Bool) → eqb e 0 ≡ b → Begins e there (down p d ∷ (ms ++ cond b [] (up p d ∷ []))) (down p d ∷ (whole ++ (up p d ∷ [])))
      go true z =
          rw (eqb-true e 0 z)
          (none_ended there (down p d ∷ (ms ++ [])) (k.rest ++ (up p d ∷ [])) (down p d ∷ (whole ++ (up p d ∷ []))) (rw (k.is, append-nil ms, append_assoc ms k.rest (up p d ∷ []))))
      go false z =
          let some_end : e ≡ 0 → ⊥ = eqb-false e 0 z in
          all_taken e there (down p d ∷ (ms ++ (up p d ∷ []))) (down p d ∷ (whole ++ (up p d ∷ []))) (rw (k.is, k.complete some_end, append-nil ms)) (k.ends some_end)

  abbrev end_by : ℕ → ℕ → ℕ
  end_by levels p = part_end File s any_end (parts_end File s any_end levels) p

  Over : ℕ → ℕ → Type 0
  Over levels d = (q : ℕ) (cs later : List Part) → trees (drop q (entries File s)) ≡ some (cs ++ later)
      → Begins (parts_end File s any_end levels (length cs) q) (q + sum (map size cs)) (parts_steps s levels d (length cs) q) (each_steps q d (map tour cs))

  part_over : (levels d : ℕ) → Over levels (suc d) → (p : ℕ) (c : Part) (later : List Part) → trees (drop p (entries File s)) ≡ some (c ∷ later)
      → Begins (end_by levels p) (p + size c) (part_steps s (parts_steps s levels (suc d)) d p (end_by levels p)) ((tour c).steps p d)
  unfolding Over part_end part_steps children_of
  part_over levels d over p c later h =
      let st : TreeAt (entries File s) p = record { part = c; later = later; is = h } in
      let peeled = stands_entry File s p st in
      let there : p + size c ≡ suc p + sum (map size (children c)) = omega (arith, size_law c) in
      rw (steps_law c p d, lt-ltb p (parts s) (stands_below File s p st), there, peeled.arity_is)
      (allowed (over (suc p) (children c) later peeled.inside) (entry_allowed (variables s) (clocks s) (entry_at File s p)))
    where
      whole : List Step
      whole = each_steps (suc p) (suc d) (map tour (children c))

      n : ℕ
      n = length (children c)

      none_inside : (cs : List Part) → length cs ≡ 0 → Begins (suc p) (suc p + sum (map size cs)) [] (each_steps (suc p) (suc d) (map tour cs))
      none_inside [] z = all_taken (suc p) (suc p + 0) [] [] refl (omega arith)
      none_inside (c ∷ cs) z = absurd (omega (arith, z))

      inside : Begins (parts_end File s any_end levels n (suc p)) (suc p + sum (map size (children c))) (parts_steps s levels (suc d) n (suc p)) whole → (b : Bool) → eqb n 0 ≡ b
          → Begins (cond b (suc p) (parts_end File s any_end levels n (suc p))) (suc p + sum (map size (children c))) (cond b [] (parts_steps s levels (suc d) n (suc p))) whole
      inside k true z = none_inside (children c) (eqb-true n 0 z)
      inside k false z = k

      allowed : Begins (parts_end File s any_end levels n (suc p)) (suc p + sum (map size (children c))) (parts_steps s levels (suc d) n (suc p)) whole → (a : Bool)
          → Begins (end_with (parts_end File s any_end levels) (count_if a n) p) (suc p + sum (map size (children c)))
          (down p d ∷ (inside_steps (parts_steps s levels (suc d)) (count_if a n) (suc p) ++ if_ended (end_with (parts_end File s any_end levels) (count_if a n) p) (up p d ∷ [])))
          (down p d ∷ (whole ++ (up p d ∷ [])))
      allowed k true = part_begins d p (end_with (parts_end File s any_end levels) (Some n) p) _ (cond (eqb n 0) [] (parts_steps s levels (suc d) n (suc p))) whole (inside k (eqb n 0) refl)
      allowed k false = none_ended _ (down p d ∷ []) (whole ++ (up p d ∷ [])) _ refl

  along_over : (levels d : ℕ)
      → ((p : ℕ) (c : Part) (later : List Part) → trees (drop p (entries File s)) ≡ some (c ∷ later) → Begins (end_by levels p) (p + size c) (part_steps s (parts_steps s levels (suc d)) d p (end_by levels p)) ((tour c).steps p d))
      → (q : ℕ) (cs later : List Part) → trees (drop q (entries File s)) ≡ some (cs ++ later)
      → Begins (along (end_by levels) (length cs) q) (q + sum (map size cs)) (along_steps (end_by levels) (part_steps s (parts_steps s levels (suc d)) d) (length cs) q) (each_steps q d (map tour cs))
  unfolding along along_steps
  along_over levels d single q [] later h = all_taken q (q + 0) [] [] refl (omega arith)
  along_over levels d single q (c ∷ cs) later h =
      rw (steps_each c cs q d)
      (go (single q c (cs ++ later) h) (along_over levels d single (q + size c) cs later (ap trees (sym (drop-drop (size c) q (entries File s))) ∙ past c (drop q (entries File s)) (cs ++ later) h)) (eqb (end_by levels q) 0) refl)
    where
      first : List Step
      first = part_steps s (parts_steps s levels (suc d)) d q (end_by levels q)

      others : ℕ → List Step
      others m = along_steps (end_by levels) (part_steps s (parts_steps s levels (suc d)) d) (length cs) m

      whole : List Step
      whole = each_steps (q + size c) d (map tour cs)

      go : Begins (end_by levels q) (q + size c) first ((tour c).steps q d) → Begins (along (end_by levels) (length cs) (q + size c)) (q + size c + sum (map size cs)) (others (q + size c)) whole
          → (b : Bool) → eqb (end_by levels q) 0 ≡ b
          → Begins (cond b 0 (along (end_by levels) (length cs) (end_by levels q))) (q + (size c + sum (map size cs))) (first ++ cond b [] (others (end_by levels q))) ((tour c).steps q d ++ whole)
      go k ks true z = none_ended _ (first ++ []) (k.rest ++ whole) _ (rw (k.is, append-nil first, append_assoc first k.rest whole))
      go k ks false z =
          let some_end : end_by levels q ≡ 0 → ⊥ = eqb-false (end_by levels q) 0 z in
          let after : q + (size c + sum (map size cs)) ≡ q + size c + sum (map size cs) = omega arith in
          let next : Begins (along (end_by levels) (length cs) (end_by levels q)) (q + size c + sum (map size cs)) (others (end_by levels q)) whole = rw (k.ends some_end) ks in
          let front : (tour c).steps q d ≡ first = k.is ∙ ap (λ (ms : List Step). first ++ ms) (k.complete some_end) ∙ append-nil first in
          rw after
          (record {
            rest = next.rest;
            is = ap (λ (ms : List Step). ms ++ whole) front ∙ ap (λ (ms : List Step). first ++ ms) next.is ∙ sym (append_assoc first (others (end_by levels q)) next.rest);
            complete = next.complete;
            ends = next.ends;
          })

  parts_over : (levels d : ℕ) → Over levels d
  unfolding Over parts_end parts_steps
  parts_over zero d q cs later h = none_ended (q + sum (map size cs)) [] (each_steps q d (map tour cs)) (each_steps q d (map tour cs)) refl
  parts_over (suc levels) d q cs later h = along_over levels d (part_over levels d (parts_over levels (suc d))) q cs later h

  -- a tree that stands alone is walked over from its root on
  pub walk_over : (t : Part) → trees (entries File s) ≡ some (t ∷ []) → Begins (parts_end File s any_end max_depth 1 0) (size t) (walk_steps s) (tree_steps t)
  unfolding walk_steps Over
  walk_over t h =
      let k = parts_over max_depth 1 0 (t ∷ []) [] h in
      record { rest = k.rest; is = sym (append-nil (tree_steps t)) ∙ k.is; complete = k.complete; ends = λ f. omega (arith, k.ends f) }
