-- The program that a text means: a tree of parts, and its program file.
use Rattle.std.specs.Prelude.{ℕ, ◌/◌, ◌%◌, List}
use Rattle.meaning.specs.declared.Operand.{Operand}
use Rattle.meaning.specs.Sizes.{byte_values}
use Rattle.meaning.specs.declared.kinds.Test.TheVariants.{Equals as EQUALS, Differs as DIFFERS, AtLeast as AT-LEAST, Below as BELOW}
use Rattle.meaning.specs.Kinds.{test_number}
use Rattle.meaning.specs.Tree.{Part, Parts, goal, start, wait, seq, par, maintain, choice, repeat, one, more}
use Rattle.meaning.specs.Program.{file_of}
use Rattle.text_grammar.specs.Syntax.{Condition, variable_equals, variable_differs, clock_at_least, clock_below, Step, goal_step, start_step, wait_step, maintain_step, repeat_step, if_step, bracketed, Sequence, one_step, more_steps, Body, one_sequence, more_sequences, Text}

-- An operand by its b0, its variable or clock, and its value. The number of a variable or a clock stands in b1 as it is typed, also where no byte
-- holds it: it is then not below V or K, and no file with that operand is accepted
abbrev pub operand_of : ℕ → ℕ → ℕ → Operand
operand_of b0 subject value = record { b0 = b0; b1 = subject; b2 = value % byte_values; b3 = value / byte_values }

unfoldable pub condition_operand : Condition → Operand
condition_operand (variable_equals v n) = operand_of (test_number EQUALS) v n
condition_operand (variable_differs v n) = operand_of (test_number DIFFERS) v n
condition_operand (clock_at_least c n) = operand_of (test_number AT-LEAST) c n
condition_operand (clock_below c n) = operand_of (test_number BELOW) c n

-- "Steps joined by the same sign make one part with that many children, a bracketed group remains a part of its own, and a single step makes no SEQ
-- or PAR"
unfoldable mutual
  pub step_tree : Step → Part
  step_tree (goal_step v n) = goal (operand_of 0 v n)
  step_tree (start_step c) = start (operand_of 0 c 0)
  step_tree (wait_step o) = wait (condition_operand o)
  step_tree (maintain_step o s) = maintain (condition_operand o) (step_tree s)
  step_tree (repeat_step s) = repeat (step_tree s)
  step_tree (if_step o s u) = choice (condition_operand o) (step_tree s) (step_tree u)
  step_tree (bracketed b) = body_tree b

  pub sequence_tree : Sequence → Part
  sequence_tree (one_step s) = step_tree s
  sequence_tree (more_steps s q) = seq (more (step_tree s) (step_trees q))

  pub step_trees : Sequence → Parts
  step_trees (one_step s) = one (step_tree s)
  step_trees (more_steps s q) = more (step_tree s) (step_trees q)

  pub body_tree : Body → Part
  body_tree (one_sequence q) = sequence_tree q
  body_tree (more_sequences q b) = par (more (sequence_tree q) (sequence_trees b))

  pub sequence_trees : Body → Parts
  sequence_trees (one_sequence q) = one (sequence_tree q)
  sequence_trees (more_sequences q b) = more (sequence_tree q) (sequence_trees b)

-- "The program file comes out"
unfoldable pub text_file : Text → List ℕ
text_file x = file_of x.variables x.clocks (body_tree x.body)
