-- The loop of the walk over a file: which steps of the walk come at each place of its code, and what it gives where it ends or stops.
use Prim.Native.Nat.{ℕ, suc, ◌+◌, ◌-◌, ◌*◌, ◌≤◌, ◌<◌}
use native.Mathlib.Omega.{arith}
use native.Mathlib.Numerals.{add-one}
use mathlib.Core.Path.{◌≡◌, refl, sym, ap, subst, ◌∙◌}
use mathlib.Core.Logic.{◌⊎◌, inl, inr}
use mathlib.Core.Bool.{true, false}
use mathlib.Core.List.{List, [], ◌++◌, append_assoc, append-nil}
use lib.Dec.{eqb}
use lib.ListN.{length, drop, length-append}
use lib.Seq.{drop-drop, drop-append_seam}
use borrow.Author.Tests.{lt-ltb, le-ltb, eq-eqb, ne_eqb}
use Rattle.meaning.specs.declared.Form.TheVariants.{File}
use Rattle.meaning.specs.Sizes.{max_depth}
use Rattle.meaning.specs.Program.{parts, entry_at}
use Rattle.std.specs.Prelude.{Option, None, Some}
use Rattle.program_part.specs.declared.layout.Sizes.{Sizes}
use Rattle.program_part.specs.Readable.{sizes_in}
use Rattle.program_part.specs.Children.{children_of}
use Rattle.program_walk.specs.declared.walk.Way.TheVariants.{Down, Up, Through}
use Rattle.program_walk.specs.Walk.{any_end, part_end, parts_end}
use Rattle.program_walk.specs.Steps.{Step, down, if_ended, children_at, inside_steps, part_steps, along_steps, parts_steps, walk_steps, Next, taking, row_steps, AtRoot}
use Rattle.program_walk.proofs.FileSteps.{walk_bounded}
use Rattle.program_walk.proofs.KeptDepth.{steps_bounded}
use Rattle.program_walk.proofs.Walking.{Walking, no_level, walk_starts, walk_ends, walk_beyond, walk_refused, walk_stuck, walk_on, none_found, found}

-- These steps of the walk are left after k of them; with them it has taken `last`
pub record Left (s : List ℕ) (k : ℕ) (ms : List Step) (last : ℕ) : Type 0 where
  pub next : Next s k ms
  pub last_is : k + length ms ≡ last

module _ (s : List ℕ) (k last : ℕ) where
  left_none : Left s k [] last → k ≡ last
  left_none l = omega (arith, l.last_is)

  left_first : (xs ys : List Step) → Left s k (xs ++ ys) last → Next s k xs
  left_first xs ys l = record { later = ys ++ l.next.later; is = l.next.is ∙ append_assoc xs ys l.next.later }

  left_past : (xs ys : List Step) → Left s k (xs ++ ys) last → Left s (k + length xs) ys last
  left_past xs ys l =
      record {
        next = record {
          later = l.next.later;
          is = sym (drop-drop (length xs) k (walk_steps s)) ∙ ap (drop (length xs)) (l.next.is ∙ append_assoc xs ys l.next.later) ∙ drop-append_seam xs (ys ++ l.next.later);
        };
        last_is = omega (arith, l.last_is, length-append xs ys);
      }

-- Before its first step the walk comes to the root, with all of its steps ahead
pub root_next : (s : List ℕ) (p : ℕ) → AtRoot s p → Next s 0 (row_steps s 0 1 p)
unfolding walk_steps
root_next s p a = record { later = []; is = rw a.root (sym (append-nil (walk_steps s))) }

-- and has taken all of them when it ends or stops, at most two for each part
pub root_steps : (s : List ℕ) (p k : ℕ) → AtRoot s p → k ≡ 0 + length (row_steps s 0 1 p) → (k ≡ length (walk_steps s)) × (k ≤ 2 * parts s)
unfolding walk_steps
root_steps s p k a is =
    let all : k ≡ length (walk_steps s) = omega (arith, is, ap (λ (i : ℕ). length (row_steps s 0 1 i)) a.root) in
    (all, omega (arith, all, walk_bounded s))

-- the steps over the parts of a row that are left, at depth d
abbrev left_steps : List ℕ → ℕ → ℕ → ℕ → List Step
left_steps s d remaining q = along_steps (part_end File s any_end (parts_end File s any_end (max_depth - d))) (part_steps s (parts_steps s (max_depth - d) (suc d)) d) remaining q

-- At each turn the parts that are left end where all of them do, and so do the steps; the depth is that of the part around them
pub record Going (s : List ℕ) (outer depth k p q remaining whole last : ℕ) : Type 0 where
  pub shallow : outer < max_depth
  pub depth_is : depth ≡ outer
  pub ends : Walking File s any_end (max_depth - suc outer) p q remaining whole
  pub steps : Left s k (left_steps s (suc outer) remaining q) last

pub going_starts : (s : List ℕ) (outer k p count : ℕ) → outer < max_depth → Next s k (row_steps s outer count p) → Going s outer outer k p p count (parts_end File s any_end (max_depth - outer) count p) (k + length (row_steps s outer count p))
unfolding parts_steps
going_starts s outer k p count shallow next =
    let levels : max_depth - outer ≡ suc (max_depth - suc outer) = omega (arith, shallow) in
    record {
      shallow = shallow;
      depth_is = refl;
      ends = walk_starts File s any_end (max_depth - outer) p count (max_depth - suc outer) levels;
      steps = record { next = record { later = next.later; is = rw levels at next.is }; last_is = rw levels };
    }

module _ (s : List ℕ) (outer depth k p q remaining whole last : ℕ) (g : Going s outer depth k p q remaining whole last) where
  abbrev d : ℕ
  d = suc outer

  abbrev below : ℕ
  below = max_depth - suc outer

  pub going_ends : remaining ≤ 0 → (q ≡ whole) × (k ≡ last)
  unfolding along_steps
  going_ends h =
      let z : remaining ≡ 0 = omega arith in
      (walk_ends File s any_end below p q remaining whole g.ends h, left_none s k last (rw z at g.steps))

  module _ (some-remaining : 0 < remaining) (z : Sizes) (z-is : z ≡ sizes_in s) where
    abbrev inside : ℕ → ℕ → List Step
    inside = parts_steps s below (suc d)

    abbrev end : ℕ
    end = part_end File s any_end (parts_end File s any_end below) q

    abbrev others : ℕ → List Step
    others e = if_ended e (left_steps s d (remaining - 1) e)

    opened : Left s k (part_steps s inside d q end ++ others end) last
    unfolding along_steps
    opened = let m : remaining ≡ suc (remaining - 1) = omega arith in rw m at g.steps

    pub going_beyond : z.parts ≤ q → (0 ≡ whole) × (k ≡ last)
    unfolding part_end part_steps
    going_beyond h = (
      walk_beyond File s any_end below p q remaining whole g.ends some-remaining z z-is h,
      left_none s k last (rw (le-ltb q (parts s) (omega (arith, h, ap (λ (x : Sizes). x.parts) z-is))) at opened),
    )

    module _ (there : q < z.parts) where
      -- the steps over part q after the one down into it, and over the parts after it
      abbrev after_down : Option ℕ → List Step
      after_down c = (inside_steps inside c (suc q) ++ if_ended end (taking Up q d)) ++ others end

      entered : Left s k (taking Down q d ++ after_down (children_at s q)) last
      unfolding part_steps
      entered = rw (lt-ltb q (parts s) (omega (arith, there, ap (λ (x : Sizes). x.parts) z-is))) at opened

      -- one more step is within the bound
      pub going_bounded : suc k ≤ 2 * parts s
      going_bounded = steps_bounded s k (down q d) [] (left_first s k last (taking Down q d) (after_down (children_at s q)) entered)

      -- the walk goes down into the part next, at the depth that is kept
      pub going_enters : (d₁ : ℕ) → d₁ ≡ d → Next s k (taking Down q d₁)
      going_enters d₁ kept = rw kept (left_first s k last (taking Down q d) (after_down (children_at s q)) entered)

      module _ (c : Option ℕ) (c-is : c ≡ children_at s q) where
        found_children : c ≡ children_of z.variables z.clocks (entry_at File s q)
        found_children = rw z-is c-is

        -- what is left, once it is known of the children
        known : (x : Option ℕ) → c ≡ x → Left s k (taking Down q d ++ after_down x) last
        known x e = subst (λ (y : Option ℕ). Left s k (taking Down q d ++ after_down y) last) (sym c-is ∙ e) entered

        pub going_refused : c ≡ None → (k₁ : ℕ) → k₁ ≡ k + 1 → (0 ≡ whole) × (k₁ ≡ last)
        going_refused refused k₁ k₁-is =
            let none : end ≡ 0 = none_found File s any_end below p q remaining whole g.ends some-remaining z z-is there (entry_at File s q) refl c found_children refused in
            let left : Left s k (taking Down q d) last = rw none at (known None refused) in
            (walk_refused File s any_end below p q remaining whole g.ends some-remaining z z-is there (entry_at File s q) refl c found_children refused, omega (arith, k₁-is, left.last_is))

        module _ (n : ℕ) (n-is : c ≡ Some n) where
          -- the depth that is kept is that of the part
          module _ (d₁ : ℕ) (kept : d₁ ≡ d) where
            abbrev ChildrenEnd : ℕ → Type 0
            ChildrenEnd x = ((0 < n) × (x ≡ parts_end File s any_end below n (q + 1))) ⊎ ((n ≤ 0) × (x ≡ q + 1))

            ends_at : (x : ℕ) → ChildrenEnd x → end ≡ x
            ends_at x child = found File s any_end below p q remaining whole g.ends some-remaining z z-is there (entry_at File s q) refl c found_children n n-is x child

            -- a part that has no children is entered and left
            module _ (no_child : n ≤ 0) where
              leaf_left : Left s k (taking Through q d ++ left_steps s d (remaining - 1) (q + 1)) last
              leaf_left =
                  let leaf : eqb n 0 ≡ true = eq-eqb n 0 (omega (arith, no_child)) in
                  let ended : eqb (q + 1) 0 ≡ false = ne_eqb (q + 1) 0 (λ e. omega (arith, e)) in
                  rw ended at (rw (ends_at (q + 1) (inr (no_child, refl))) at (rw leaf at (known (Some n) n-is)))

              pub going_through : Next s k (taking Through q d₁)
              going_through = rw kept (left_first s k last (taking Through q d) (left_steps s d (remaining - 1) (q + 1)) leaf_left)

              leaf_after : (k₁ : ℕ) → k₁ ≡ k + 2 → Left s k₁ (left_steps s d (remaining - 1) (q + 1)) last
              leaf_after k₁ k₁-is = rw k₁-is (left_past s k last (taking Through q d) (left_steps s d (remaining - 1) (q + 1)) leaf_left)

            -- a part that has some is left after them
            module _ (some_child : 0 < n) where
              abbrev after_children : List Step
              after_children = if_ended end (taking Up q d) ++ others end

              part_left : Left s k (taking Down q d ++ (inside n (suc q) ++ after_children)) last
              part_left =
                  rw (append_assoc (inside n (suc q)) (if_ended end (taking Up q d)) (others end)) at (rw (ne_eqb n 0 (λ e. omega (arith, some_child, e))) at (known (Some n) n-is))

              module _ (k₁ : ℕ) (k₁-is : k₁ ≡ k + 1) where
                children_left : Left s k₁ (inside n (suc q) ++ after_children) last
                children_left = rw k₁-is (left_past s k last (taking Down q d) (inside n (suc q) ++ after_children) part_left)

                -- the children of a part at the depth limit would stand too deep: the walk stops, and none of them is entered
                pub going_deep : d₁ ≡ max_depth → (0 ≡ whole) × (k₁ ≡ last)
                unfolding parts_steps
                going_deep limit =
                    let none_below : below ≡ 0 = omega (arith, limit, kept) in
                    let child : ChildrenEnd 0 = inl (some_child, no_level File s any_end below (q + 1) n none_below) in (
                      walk_stuck File s any_end below p q remaining whole g.ends some-remaining z z-is there (entry_at File s q) refl c found_children n n-is 0 child refl,
                      left_none s k₁ last (rw none_below at (rw (ends_at 0 child) at children_left)),
                    )

                pub going_inside : Next s k₁ (row_steps s d₁ n (q + 1))
                going_inside = rw (kept, add-one q) (left_first s k₁ last (inside n (suc q)) after_children children_left)

                module _ (x k₂ : ℕ) (x-is : x ≡ parts_end File s any_end (max_depth - d₁) n (q + 1)) (k₂-is : k₂ ≡ k₁ + length (row_steps s d₁ n (q + 1))) where
                  child : ChildrenEnd x
                  child = inl (some_child, rw (← kept) x-is)

                  after : Left s k₂ (if_ended x (taking Up q d) ++ others x) last
                  after =
                      let taken : k₂ ≡ k₁ + length (inside n (suc q)) = rw (← kept, ← add-one q) k₂-is in
                      rw (taken, ← ends_at x child) (left_past s k₁ last (inside n (suc q)) after_children children_left)

                  pub going_stuck : x ≡ 0 → (0 ≡ whole) × (k₂ ≡ last)
                  going_stuck none =
                      (walk_stuck File s any_end below p q remaining whole g.ends some-remaining z z-is there (entry_at File s q) refl c found_children n n-is x child none, left_none s k₂ last (rw none at after))

                  module _ (some_end : x ≡ 0 → ⊥) where
                    rising : Left s k₂ (taking Up q d ++ left_steps s d (remaining - 1) x) last
                    rising = rw (ne_eqb x 0 some_end) at after

                    pub going_leaves : Next s k₂ (taking Up q d₁)
                    going_leaves = rw kept (left_first s k₂ last (taking Up q d) (left_steps s d (remaining - 1) x) rising)

                    left_after : (k₃ : ℕ) → k₃ ≡ k₂ + 1 → Left s k₃ (left_steps s d (remaining - 1) x) last
                    left_after k₃ k₃-is = rw k₃-is (left_past s k₂ last (taking Up q d) (left_steps s d (remaining - 1) x) rising)

            -- the walk has come out of the part, at x, after k₃ steps
            abbrev pub Passed : ℕ → ℕ → Type 0
            Passed x k₃ =
                ((n ≤ 0) × (x ≡ q + 1) × (k₃ ≡ k + 2))
                ⊎ ((k₁ : ℕ) × (k₂ : ℕ) × (0 < n) × (k₁ ≡ k + 1) × (x ≡ parts_end File s any_end (max_depth - d₁) n (q + 1)) × (k₂ ≡ k₁ + length (row_steps s d₁ n (q + 1))) × (x ≡ 0 → ⊥) × (k₃ ≡ k₂ + 1))

            pub going_on : (x k₃ depth₁ : ℕ) → Passed x k₃ → depth₁ ≡ depth → Going s outer depth₁ k₃ p x (remaining - 1) whole last
            going_on x k₃ depth₁ pass depth₁-is =
                record {
                  shallow = g.shallow;
                  depth_is = omega (arith, depth₁-is, g.depth_is);
                  ends = walk_on File s any_end below p q remaining whole g.ends some-remaining z z-is there (entry_at File s q) refl c found_children n n-is x (child_of pass) (ended_of pass) refl;
                  steps = left_of pass;
                }
              where
                child_of : Passed x k₃ → ChildrenEnd x
                child_of (inl h) = inr (h.0, h.1)
                child_of (inr h) = child h.2 h.0 h.3 x h.1 h.4 h.5

                ended_of : Passed x k₃ → x ≡ 0 → ⊥
                ended_of (inl h) = λ e. omega (arith, h.1, e)
                ended_of (inr h) = h.6

                left_of : Passed x k₃ → Left s k₃ (left_steps s d (remaining - 1) x) last
                left_of (inl h) = rw h.1 (leaf_after h.0 k₃ h.2)
                left_of (inr h) = left_after h.2 h.0 h.3 x h.1 h.4 h.5 h.6 k₃ h.7
