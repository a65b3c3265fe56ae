-- The settling of one part, as the code makes it on the marks of all parts while it goes from the last part down.
use Rattle.std.specs.Prelude.{ℕ, suc, ◌+◌, ◌<◌, ◌≡◌, min, cond, List, eqb, ltb, get_or, set, Option, None, Some, IfSome}
use Rattle.std.proofs.lemmas.List.Edits.{sets}
use Rattle.meaning.specs.declared.Transition.{Transition}
use Rattle.meaning.specs.declared.Transition.TheVariants.{Stays, Ends, First, Second}
use Rattle.meaning.specs.Sizes.{no_part}
use Rattle.meaning.specs.Program.{parts}
use Rattle.meaning.specs.Table.{kind_at, operand_of, end_at, next_at}
use Rattle.meaning.specs.Record.{marks_place, last_time, is_mark}
use Rattle.meaning.specs.Cycle.{initial_marks, transition, situation}
use Rattle.run_marks.specs.declared.settled.Lowest.{Lowest}

-- the mark that a transition leaves its part
abbrev pub mark_after : Transition → ℕ
mark_after Stays = 1
mark_after Ends = 0
mark_after First = 1
mark_after Second = 1

-- the part that a number of a table's row names, if it names one
abbrev pub named : ℕ → Option ℕ
named q = cond (eqb q no_part) None (Some q)

-- the part that is initialised by a transition of part p
abbrev pub follower : List ℕ → ℕ → Transition → Option ℕ
follower t p Stays = None
follower t p Ends = named (next_at t p)
follower t p First = Some (suc p)
follower t p Second = Some (end_at t (suc p))

-- a transition that part p of a table can make: what it initialises stands in the table, since only a CHOICE takes a child
pub record PossibleTransition (t : List ℕ) (p : ℕ) (f : Transition) : Type 0 where
  pub second : f ≡ Second → suc p < parts t
  pub follows : IfSome (follower t p f) (λ q. q < parts t)

-- the marks of all parts once part p has mark x and part q, if there is one, is initialised
abbrev pub mark_stored : List ℕ → ℕ → ℕ → Option ℕ → List ℕ → List ℕ
mark_stored t p x None m = set m p x
mark_stored t p x (Some q) m = sets (set m p x) q (initial_marks t q)

-- the lowest marked part from p on after that, where `low` was the lowest after p
abbrev pub lower : Option ℕ → ℕ → ℕ
lower None low = low
lower (Some q) low = min q low

unfoldable pub lowest_with : ℕ → ℕ → Option ℕ → ℕ → ℕ
lowest_with p x q low = cond (is_mark x) p (lower q low)

-- the transition of part p, where something is marked inside it if the lowest marked part after p stands before p's end
unfoldable pub part_transition : List ℕ → List ℕ → List ℕ → ℕ → Lowest → Transition
part_transition t r est p low = transition (situation t r est (last_time r)) (kind_at t p) (operand_of t p) (ltb low.old (end_at t p)) (ltb low.new (end_at t p))

-- the marks, and the lowest marked parts from p on, once part p is settled
unfoldable pub part_marks : List ℕ → List ℕ → List ℕ → ℕ → Lowest → List ℕ → List ℕ
part_marks t r est p low m =
    cond (is_mark (get_or r (marks_place + p) 0))
    (mark_stored t p (mark_after (part_transition t r est p low)) (follower t p (part_transition t r est p low)) m)
    (set m p 0)

unfoldable pub part_lowest : List ℕ → List ℕ → List ℕ → ℕ → Lowest → Lowest
part_lowest t r est p low =
    cond (is_mark (get_or r (marks_place + p) 0))
    (record { old = p; new = lowest_with p (mark_after (part_transition t r est p low)) (follower t p (part_transition t r est p low)) low.new })
    low
