-- The text of an answer, and of a line that is no call.
use Rattle.std.specs.Prelude.{ℕ, ◌-◌, cond, List, ◌++◌, eqb, ltb}
use Rattle.meaning.specs.Answers.{answered, no_variable}
use Rattle.desk_format.specs.Decimal.{decimal}
use Rattle.desk_format.specs.Hexadecimal.{pairs}
use Rattle.desk_format.specs.Words.{word, numbered}

-- "refused N"
abbrev pub refused_text : ℕ → List ℕ
refused_text n = numbered (word "refused ") n

-- a beginning's answer, 0 or the refusal's number: "begun"
unfoldable pub begun_text : ℕ → List ℕ
begun_text n = cond (eqb n 0) (word "begun\n") (refused_text n)

-- a settling's answer: "running" or "finished"
unfoldable pub settled_text : ℕ → List ℕ
settled_text n = cond (ltb n answered) (refused_text n) (cond (eqb n answered) (word "running\n") (word "finished\n"))

-- an offer's answer with the V goal bytes: "goals HEX named V", or "named none"
unfoldable pub named_text : ℕ → List ℕ
named_text v = cond (eqb v no_variable) (word " named none\n") (numbered (word " named ") v)

unfoldable pub goals_text : List ℕ → ℕ → List ℕ
goals_text goals v = word "goals" ++ (pairs goals ++ named_text v)

unfoldable pub offered_text : ℕ → List ℕ → List ℕ
offered_text n goals = cond (ltb n answered) (refused_text n) (goals_text goals (n - answered))

-- "line N: not a call"
unfoldable pub line_text : ℕ → List ℕ
line_text n = word "line " ++ (decimal n ++ word ": not a call\n")
