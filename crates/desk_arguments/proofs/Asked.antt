-- Laws of requests: some that only one of the commands has.
use Prim.Native.Nat.{ℕ}
use mathlib.Core.Path.{◌≡◌, refl, sym, ap, ◌∙◌}
use mathlib.Core.Bool.{Bool, true, false, cond, true≢false, ◌||◌}
use mathlib.Core.List.{List}
use lib.Dec.{eqb, ltb}
use lib.ListN.{length}
use Rattle.base.specs.Lists.{same}
use Rattle.desk_arguments.specs.declared.Request.{Request}
use Rattle.desk_arguments.specs.declared.Request.TheVariants.{Help, Usage, LongName, Input, File, FileWithParts}
use Rattle.desk_arguments.specs.Requests.{with_name, help_word, name_request, source_request, asks_parts, rehearse_request}

-- requests that only one of the commands has
is_input : Request → Bool
is_input Help = false
is_input Usage = false
is_input LongName = false
is_input Input = true
is_input File = false
is_input FileWithParts = false

has_parts : Request → Bool
has_parts Help = false
has_parts Usage = false
has_parts LongName = false
has_parts Input = false
has_parts File = false
has_parts FileWithParts = true

never_input : (name : List ℕ) (cut parts help named : Bool) → is_input (cond help Help (cond named (name_request name cut parts) Usage)) ≡ false
unfolding name_request is_input
never_input name cut parts true named = refl
never_input name cut parts false false = refl
never_input name true parts false true = refl
never_input name false parts false true = go (eqb (length name) 0) parts
  where
    go : (empty p : Bool) → is_input (cond empty Usage (cond p FileWithParts File)) ≡ false
    go true p = refl
    go false true = refl
    go false false = refl

never_parts : (name : List ℕ) (cut none help named : Bool) → has_parts (cond none Input (cond help Help (cond named (name_request name cut false) Usage))) ≡ false
unfolding name_request has_parts
never_parts name cut true help named = refl
never_parts name cut false true named = refl
never_parts name cut false false false = refl
never_parts name true false false true = refl
never_parts name false false false true = go (eqb (length name) 0)
  where
    go : (empty : Bool) → has_parts (cond empty Usage File) ≡ false
    go true = refl
    go false = refl

-- `rehearse` never reads its program from standard input, and the others never print marked parts
pub rehearse_named : (count : ℕ) (name second : List ℕ) (cut : Bool) → rehearse_request count name cut second ≡ Input → ⊥
unfolding rehearse_request is_input
rehearse_named count name second cut e =
    let is = never_input name cut (asks_parts count second) (same name help_word) (eqb count with_name || asks_parts count second) in
    true≢false (sym (ap is_input e) ∙ is)

pub source_no_parts : (count : ℕ) (name : List ℕ) (cut : Bool) → source_request count name cut ≡ FileWithParts → ⊥
unfolding source_request has_parts
source_no_parts count name cut e =
    let is = never_parts name cut (ltb count with_name) (same name help_word) (eqb count with_name) in
    true≢false (sym (ap has_parts e) ∙ is)
