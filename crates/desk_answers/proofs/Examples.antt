-- Lines of answers, computed by the definitions.
use Prim.Native.Nat.{◌+◌}
use mathlib.Core.Path.{◌≡◌, refl}
use mathlib.Core.List.{[], ◌∷◌}
use Rattle.desk_format.specs.Decimal.{digits, decimal}
use Rattle.desk_format.specs.Hexadecimal.{pairs}
use Rattle.desk_format.specs.Words.{word, numbered}
use Rattle.desk_answers.specs.Answers.{refused_text, named_text, goals_text, offered_text}

refused : refused_text 13 ≡ word "refused 13\n"
unfolding digits decimal numbered
refused = refl

agreed : offered_text (256 + 255) (1 ∷ 255 ∷ []) ≡ word "goals 01 FF named none\n"
unfolding pairs named_text goals_text offered_text digits decimal numbered
agreed = refl
