-- Lines of a transcript, computed by the definitions.
use Prim.Native.Nat.{ℕ}
use mathlib.Core.Path.{◌≡◌, refl}
use mathlib.Core.List.{List, [], ◌∷◌}
use Rattle.meaning.specs.Record.{record_bytes}
use Rattle.desk_format.specs.Decimal.{digits, decimal}
use Rattle.desk_format.specs.Hexadecimal.{pairs}
use Rattle.desk_format.specs.Words.{word, numbered}
use Rattle.desk_format.specs.Writing.{texts_from}
use Rattle.desk_transcript.specs.Transcript.{part_text, marks_text, parts_text, estimate_text, start_text, clock_text, clocks_text, finishing_text, state_text, summary_text}

-- three parts, two variables and two clocks; the first clock started at 100
sizes : List ℕ
sizes = 3 ∷ 2 ∷ 2 ∷ []

held : ℕ → List ℕ → List ℕ
held phase marks = record_bytes phase 110 (1 ∷ 0 ∷ []) (1 ∷ 0 ∷ []) (100 ∷ 0 ∷ []) marks

marked : parts_text sizes (held 1 (1 ∷ 0 ∷ 1 ∷ [])) ≡ word "parts 0 2\n"
unfolding sizes held record_bytes digits decimal texts_from part_text marks_text parts_text
marked = refl

finished : summary_text sizes (held 2 []) 3 ≡ word "phase 2\nlast time 110\nestimate 01 00\nclock 0 100\nclock 1 -\nfinishing cycle 3\n"
unfolding sizes held record_bytes digits decimal numbered pairs texts_from estimate_text start_text clock_text clocks_text finishing_text state_text summary_text
finished = refl

running : finishing_text (held 1 (1 ∷ 1 ∷ 0 ∷ [])) 3 ≡ word "finishing cycle -\n"
unfolding held record_bytes finishing_text
running = refl
