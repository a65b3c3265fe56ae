-- The readings of the parser as lists of entries: a part is the entries of its tree in preorder.
use Rattle.std.specs.Prelude.{ℕ, List, [], ◌∷◌, ◌++◌, map}
use Rattle.meaning.specs.declared.Operand.{Operand}
use Rattle.meaning.specs.declared.Entry.{Entry}
use Rattle.meaning.specs.declared.kinds.Kind.TheVariants.{Goal as GOAL, Start as START, Choice as CHOICE}
use Rattle.meaning.specs.Kinds.{number_of}
use Rattle.meaning.specs.Tree.{list_of}
use Rattle.meaning.specs.Program.{preorder}
use Rattle.text_grammar.specs.declared.tokens.Mark.{Mark}
use Rattle.text_grammar.specs.declared.tokens.Mark.TheVariants.{ThenWord as then_word, ElseWord as else_word, EqualSign as equal_sign, Semicolon as semicolon, Comma as comma, Colon as colon}
use Rattle.text_grammar.specs.declared.tokens.Token.{Token}
use Rattle.text_grammar.specs.Syntax.{Text}
use Rattle.text_grammar.specs.Trees.{operand_of, condition_operand, step_tree, sequence_tree, step_trees, body_tree, sequence_trees}
use Rattle.text_grammar.specs.Parser.{Parsed, got, bind, on_mark, expect, parse_number, parse_clock, parse_condition, parse_step, parse_sequence, parse_body, end_text}
use Rattle.text_parts.specs.declared.Level.{Level}
use Rattle.text_parts.specs.declared.Level.TheVariants.{Steps, Sequences}
use Rattle.text_parts.specs.Stored.{join_entries}

unfoldable pub step_entries : List Token → Parsed (List Entry)
step_entries ts = bind (parse_step ts) (λ s rest. got (preorder (step_tree s)) rest)

unfoldable pub sequence_entries : List Token → Parsed (List Entry)
sequence_entries ts = bind (parse_sequence ts) (λ q rest. got (preorder (sequence_tree q)) rest)

unfoldable pub body_entries : List Token → Parsed (List Entry)
body_entries ts = bind (parse_body ts) (λ b rest. got (preorder (body_tree b)) rest)

-- a part, of which what stands inside is still to be read
abbrev pub alone : ℕ → Operand → List Entry
alone kind o = record { kind = kind; operand = o } ∷ []

-- a number, and the part that has it for its value
unfoldable pub value_entries : ℕ → ℕ → ℕ → List Token → Parsed (List Entry)
value_entries kind b0 subject ts = bind (parse_number ts) (λ n rest. got (alone kind (operand_of b0 subject n)) rest)

-- one of two signs after a variable or a clock, and the value that is tested
unfoldable pub test_entries : ℕ → ℕ → Mark → ℕ → Mark → ℕ → List Token → Parsed (List Entry)
test_entries kind subject m test k other ts = on_mark m ts (value_entries kind test subject) (expect k ts (value_entries kind other subject))

-- a condition, and the part that has it
unfoldable pub condition_entries : ℕ → List Token → Parsed (List Entry)
condition_entries kind ts = bind (parse_condition ts) (λ o rest. got (alone kind (condition_operand o)) rest)

-- a goal after its variable, and the clock of a START
unfoldable pub goal_entries : ℕ → List Token → Parsed (List Entry)
goal_entries v ts = expect equal_sign ts (value_entries (number_of GOAL) 0 v)

unfoldable pub start_entries : List Token → Parsed (List Entry)
start_entries ts = bind (parse_clock ts) (λ c rest. got (alone (number_of START) (operand_of 0 c 0)) rest)

-- after what was read: a mark; a step
unfoldable pub pass_mark : Mark → List Entry → List Token → Parsed (List Entry)
pass_mark m es ts = expect m ts (λ rest. got es rest)

unfoldable pub then_step : List Entry → List Token → Parsed (List Entry)
then_step es ts = bind (step_entries ts) (λ fs rest. got (es ++ fs) rest)

-- the condition and the branches of an `if`
unfoldable pub choice_entries : List Token → Parsed (List Entry)
choice_entries ts = bind (bind (bind (bind (condition_entries (number_of CHOICE) ts) (pass_mark then_word)) then_step) (pass_mark else_word)) then_step

-- what joins, and what is joined
unfoldable pub joining_mark : Level → Mark
joining_mark Steps = semicolon
joining_mark Sequences = comma

unfoldable pub item_entries : Level → List Token → Parsed (List Entry)
item_entries Steps ts = step_entries ts
item_entries Sequences ts = sequence_entries ts

-- the entries of each that is joined to the first
unfoldable pub further_entries : Level → List Token → Parsed (List (List Entry))
further_entries Steps ts = on_mark semicolon ts (λ rest. bind (parse_sequence rest) (λ q end. got (map preorder (list_of (step_trees q))) end)) (got [] ts)
further_entries Sequences ts = on_mark comma ts (λ rest. bind (parse_body rest) (λ b end. got (map preorder (list_of (sequence_trees b))) end)) (got [] ts)

unfoldable pub rest_entries : Level → List Entry → List Token → Parsed (List Entry)
rest_entries l es ts = bind (further_entries l ts) (λ fss rest. got (join_entries l es fss) rest)

-- what follows the first step of a body
unfoldable pub tail_entries : List Entry → List Token → Parsed (List Entry)
tail_entries es ts = bind (rest_entries Steps es ts) (rest_entries Sequences)

-- "V and K come before the colon"
pub record SizesRead : Type 0 where
  pub variables : ℕ
  pub clocks : ℕ

unfoldable pub parse_header : List Token → Parsed SizesRead
parse_header ts =
    bind (parse_number ts)
    (λ v rest. bind (parse_number rest)
    (λ k rest. expect colon rest
    (λ rest. got (record { variables = v; clocks = k }) rest)))

-- the body, and nothing after it
unfoldable pub parse_program : ℕ → ℕ → List Token → Parsed Text
parse_program v k ts = bind (parse_body ts) (λ b rest. end_text (record { variables = v; clocks = k; body = b }) rest)
