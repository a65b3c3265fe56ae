-- Reading and giving back are one another's inverses, as definitions and as operations.
use Prim.Native.Nat.{ℕ, ◌≤◌}
use native.Mathlib.Omega.{arith}
use mathlib.Core.Path.{◌≡◌, refl, sym, ap, ◌∙◌, subst}
use mathlib.Core.Logic.Iff
use mathlib.Core.Logic.{◌↔◌}
use mathlib.Core.Bool.{Bool, true, false, false≢true}
use mathlib.Core.List.{List, [], ◌∷◌, ◌++◌}
use lib.Dec.{leb}
use lib.ListN.{length, drop}
use lib.Seq.{sets}
use borrow.Author.Tests.{leb-true, le-leb}
use Rattle.base.specs.Lists.{first_failing, bytes_at}
use Rattle.base.proofs.Lists.{none_fails}
use Rattle.base.proofs.Stores.{bytes_front, sets_start}
use Rattle.meaning.specs.declared.Form.TheVariants.{File, Table}
use Rattle.meaning.specs.Sizes.{length_of}
use Rattle.meaning.specs.Program.{parts}
use Rattle.meaning.specs.Table.{compiled, file_in, is_table, compile_refusal, compiled_into, decompile_tests, decompile_refusal, decompiled_into}
use Rattle.meaning.specs.Answers.{buffer_too_short, not_a_table}
use Rattle.meaning.proofs.Files.{accepted}
use Rattle.meaning.proofs.Tables.{file_back, table_of_file, table_held}
use Rattle.meaning.proofs.Refusals.{compile_accepts}
use Rattle.sentences.specs.RoundTrip.{front_of, rest_of, Gives, FilesComeBack, TablesComeBack, Inverses}

-- decompiling is not refused exactly where the bytes are a table and there is room for the file
pub decompile_accepts : (t : List ℕ) (room : ℕ) → (decompile_refusal t room ≡ 0) ↔ ((is_table t ≡ true) × (length_of File (parts t) ≤ room))
unfolding decompile_refusal
decompile_accepts t room = (
  λ h.
      let tests = none_fails (decompile_tests t room) refl h in
      (tests.0, leb-true (length_of File (parts t)) room tests.1.0),
  λ x. rw (x.0, le-leb (length_of File (parts t)) room x.1),
)

-- what a file gives is a table that holds that file
module _ (f t : List ℕ) (g : Gives f t) where
  given_table : is_table t ≡ true
  given_table = (table_of_file t).1 (f, g.accepted, g.table_is)

  given_file : file_in t ≡ f
  given_file = ap file_in (sym g.table_is) ∙ file_back f g.accepted

  -- both have as many parts
  given_parts : parts t ≡ parts f
  unfolding file_in
  given_parts = ap parts given_file

-- a table is what the file in it gives
table_gives : (t : List ℕ) → is_table t ≡ true → Gives (file_in t) t
table_gives t h =
    let x = (table_of_file t).0 h in
    subst (λ f. Gives f t) (sym (given_file x.0 t (record { accepted = x.1; table_is = x.2 }))) (record { accepted = x.1; table_is = x.2 })

-- bytes that are no table are the table of no file
no_file : (t : List ℕ) → (is_table t ≡ false) ↔ ((f : List ℕ) → Gives f t → ⊥)
no_file t = (λ h f g. false≢true (sym h ∙ given_table f t g), λ n. go (is_table t) refl n)
  where
    go : (b : Bool) → is_table t ≡ b → ((f : List ℕ) → Gives f t → ⊥) → b ≡ false
    go true h n = absurd (n (file_in t) (table_gives t h))
    go false h n = refl

-- and 9 is their refusal alone
nine : (t : List ℕ) (room : ℕ) → (decompile_refusal t room ≡ not_a_table) ↔ (is_table t ≡ false)
unfolding decompile_refusal
nine t room = (λ h. go (is_table t) (leb (length_of File (parts t)) room) h, λ h. rw h)
  where
    go : (b c : Bool) → first_failing ((not_a_table, b) ∷ (buffer_too_short, c) ∷ []) ≡ not_a_table → b ≡ false
    go true true h = absurd (omega arith)
    go true false h = absurd (omega arith)
    go false c h = refl

-- bytes written at the front of a buffer that has room for them
written : (xs out : List ℕ) (n : ℕ) → length xs ≡ n → n ≤ length out → sets out 0 xs ≡ xs ++ drop n out
written xs out n e l = rw (← e) (sets_start out xs (rw e l))

-- what stands at the front of a buffer that begins so
front_is : (xs ys out : List ℕ) (n : ℕ) → length xs ≡ n → out ≡ xs ++ ys → bytes_at out 0 n ≡ xs
front_is xs ys out n e h = rw (← e) (bytes_front out xs ys 0 h)

-- a file of n parts and the table that it gives: how long they are, and what each operation leaves where it is not refused
module _ (f t : List ℕ) (g : Gives f t) (n : ℕ) (n-is : parts f ≡ n) where
  file_long : length f ≡ length_of File n
  file_long = (accepted File f g.accepted).2.length_is ∙ ap (length_of File) n-is

  table_long : length t ≡ length_of Table n
  table_long = (table_held t (given_table f t g)).1.length_is ∙ ap (length_of Table) (given_parts f t g ∙ n-is)

  module _ (out : List ℕ) where
    compiled_out : length_of Table n ≤ length out → (compile_refusal f (length out) ≡ 0) × (compiled_into f out ≡ t ++ rest_of Table n out)
    unfolding compiled_into
    compiled_out l =
        let z : compile_refusal f (length out) ≡ 0 = (compile_accepts f (length out)).1 (g.accepted, rw n-is l) in
        rw (z, g.table_is) (refl, written t out (length_of Table n) table_long l)

    decompiled_out : length_of File n ≤ length out → (decompile_refusal t (length out) ≡ 0) × (decompiled_into t out ≡ f ++ rest_of File n out)
    unfolding decompiled_into
    decompiled_out l =
        let z : decompile_refusal t (length out) ≡ 0 = (decompile_accepts t (length out)).1 (given_table f t g, rw (given_parts f t g ∙ n-is) l) in
        rw (z, given_file f t g) (refl, written f out (length_of File n) file_long l)

-- a file that was read is given back
back_file : FilesComeBack
back_file f out answer out' c z back answer' back' d l =
    let n : ℕ = parts f in
    let x = (compile_accepts f (length out)).0 (sym c.answer_is ∙ z) in
    let g : Gives f (compiled File f) = record { accepted = x.0; table_is = refl } in
    let o : out' ≡ compiled File f ++ rest_of Table n out = c.buffer_is ∙ (compiled_out f (compiled File f) g n refl out x.1).1 in
    let e : front_of Table n out' ≡ compiled File f = front_is (compiled File f) (rest_of Table n out) out' (length_of Table n) (table_long f (compiled File f) g n refl) o in
    let given : Gives f (front_of Table n out') = rw e g in
    let v = decompiled_out f (front_of Table n out') given n refl back l in
    record { table_given = given; further_out = rw e o; done = d.answer_is ∙ v.0; file_is = d.buffer_is ∙ v.1 }

-- and the file that a table was given back as gives that table
back_table : TablesComeBack
back_table t back answer back' d z out answer' out' c l =
    let n : ℕ = parts t in
    let x = (decompile_accepts t (length back)).0 (sym d.answer_is ∙ z) in
    let g : Gives (file_in t) t = table_gives t x.0 in
    let o : back' ≡ file_in t ++ rest_of File n back = d.buffer_is ∙ (decompiled_out (file_in t) t g n (sym (given_parts (file_in t) t g)) back x.1).1 in
    let e : front_of File n back' ≡ file_in t = front_is (file_in t) (rest_of File n back) back' (length_of File n) (file_long (file_in t) t g n (sym (given_parts (file_in t) t g))) o in
    let gives : Gives (front_of File n back') t = rw e g in
    let v = compiled_out (front_of File n back') t gives n (sym (given_parts (front_of File n back') t gives)) out l in
    record { file_gives = gives; further_back = rw e o; done = c.answer_is ∙ v.0; table_is = c.buffer_is ∙ v.1 }

-- reading, giving back and the table check are one another's inverses
pub inverses : Inverses
inverses =
    record {
      table_is_given = λ t. (table_gives t, given_table (file_in t) t);
      one_file = λ f t g. sym (given_file f t g);
      none_gives = no_file;
      refused = λ t room. Iff.trans (nine t room) (no_file t);
      files_back = back_file;
      tables_back = back_table;
    }
