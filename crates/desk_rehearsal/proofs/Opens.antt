-- Compiling the program file: one law for each answer, and what follows for the buffers.
use Prim.Native.Nat.{ℕ, ◌≤◌}
use native.Mathlib.Omega.{arith}
use native.Mathlib.Nat.{zero-add}
use mathlib.Core.Path.{◌≡◌, refl, sym, ap, ◌∙◌}
use mathlib.Core.Bool.{true, false}
use mathlib.Core.List.{List, []}
use lib.Dec.{eqb}
use lib.ListN.{length, take, drop}
use lib.Seq.{sets, length-sets, take_at}
use borrow.Author.Tests.{eqb-true, ne_eqb}
use Rattle.base.proofs.Stores.{sets_start}
use Rattle.meaning.specs.declared.Form.TheVariants.{File, Table}
use Rattle.meaning.specs.declared.Refusal.{Refusal}
use Rattle.std.specs.Prelude.{Bool, cond, Result, Ok, Err}
use Rattle.meaning.specs.Answers.{refusal_number, answer_number}
use Rattle.meaning.specs.Sizes.{length_of}
use Rattle.meaning.specs.Program.{parts}
use Rattle.meaning.specs.Table.{compiled, compile_refusal, compiled_into}
use Rattle.meaning.proofs.Answers.{not_refused, is_refused}
use Rattle.meaning.proofs.Refusals.{compile_accepts}
use Rattle.agreement.proofs.Operations.{compiled_length}
use Rattle.desk_format.specs.Writing.{Written}
use Rattle.desk_answers.specs.Answers.{refused_text}
use Rattle.desk_transcript.specs.Transcript.{max_answer}
use Rattle.desk_transcript.proofs.Lengths.{refused_fits}
use Rattle.desk_rehearsal.specs.Opening.{opened_text, Opening}

module _ (f table table' out : List ℕ) (a : Result (Unit {0}) Refusal) (a-is : answer_number a ≡ compile_refusal f (length table)) (table_is : table' ≡ compiled_into f table) where
  pub open_done : (n p : ℕ) → a ≡ Ok tt → p ≡ parts f → n ≡ length_of Table p → Opening f table table' out out (Ok n)
  unfolding opened_text
  open_done n p told p-is n-is =
      let z : compile_refusal f (length table) ≡ 0 = not_refused a (compile_refusal f (length table)) a-is told in
      record { answer_is = rw z (ap Ok (n-is ∙ ap (length_of Table) p-is)); table_is = table_is; text_is = rw z }

  pub open_refused : (r : Refusal) (out' : List ℕ) (n : ℕ) → a ≡ Err r → Written (refused_text (refusal_number r)) out 0 out' n → Opening f table table' out out' (Err n)
  unfolding opened_text
  open_refused r out' n told w =
      let number : refusal_number r ≡ compile_refusal f (length table) = ap answer_number (sym told) ∙ a-is in
      let no : eqb (compile_refusal f (length table)) 0 ≡ false = ne_eqb (compile_refusal f (length table)) 0 (is_refused a r (compile_refusal f (length table)) a-is told) in
      record {
        answer_is = rw (no, ← number) (ap Err (w.after ∙ zero-add (length (refused_text (refusal_number r)))));
        table_is = table_is;
        text_is = rw (no, ← number) w.bytes;
      }

-- what an answer by a test says where it is known
module _ (b : Bool) (x y : ℕ) where
  chosen_ok : (n : ℕ) → Ok n ≡ cond b (Ok x) (Err y) → (b ≡ true) × (n ≡ x)
  chosen_ok n h = go b h
    where
      go : (b : Bool) → Ok n ≡ cond b (Ok x) (Err y) → (b ≡ true) × (n ≡ x)
      go true h = (refl, cc)
      go false h = absurd cc

  chosen_err : (n : ℕ) → Err n ≡ cond b (Ok x) (Err y) → (b ≡ false) × (n ≡ y)
  chosen_err n h = go b h
    where
      go : (b : Bool) → Err n ≡ cond b (Ok x) (Err y) → (b ≡ false) × (n ≡ y)
      go true h = absurd cc
      go false h = (refl, cc)

-- An accepted file's table lies within the buffer: it is the table of the file, and nothing else
module _ (f table table' out out' : List ℕ) (o : Result ℕ ℕ) (n : ℕ) (h : Opening f table table' out out' o) where
  module _ (e : o ≡ Ok n) where
    opened : (eqb (compile_refusal f (length table)) 0 ≡ true) × (n ≡ length_of Table (parts f))
    opened = chosen_ok (eqb (compile_refusal f (length table)) 0) (length_of Table (parts f)) (length (opened_text (compile_refusal f (length table)))) n (sym e ∙ h.answer_is)

    accepted_zero : compile_refusal f (length table) ≡ 0
    accepted_zero = eqb-true (compile_refusal f (length table)) 0 opened.0

    written_table : table' ≡ sets table 0 (compiled File f)
    unfolding compiled_into
    written_table = h.table_is ∙ rw accepted_zero

    pub opened_fits : n ≤ length table'
    opened_fits = rw (written_table, length-sets table 0 (compiled File f)) (omega (arith, opened.1, ((compile_accepts f (length table)).0 accepted_zero).1))

    pub opened_table : take n table' ≡ compiled File f
    opened_table =
        let r = (compile_accepts f (length table)).0 accepted_zero in
        let whole = compiled_length f r.0 in
        rw (written_table, sets_start table (compiled File f) (omega (arith, r.1)))
        (take_at (compiled File f) (drop (length (compiled File f)) table) n (whole ∙ sym opened.1))

  -- and so does the text that says why a file is refused
  pub refusal_fits : o ≡ Err n → n ≤ max_answer
  unfolding opened_text
  refusal_fits e =
      let told = chosen_err (eqb (compile_refusal f (length table)) 0) (length_of Table (parts f)) (length (opened_text (compile_refusal f (length table)))) n (sym e ∙ h.answer_is) in
      let size : n ≡ length (refused_text (compile_refusal f (length table))) = told.1 ∙ rw told.0 in
      omega (arith, size, refused_fits [] [] (compile_refusal f (length table)) (omega arith))
