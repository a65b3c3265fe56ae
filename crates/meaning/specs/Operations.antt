-- What the operations promise: the answer's number and every byte of what they write, for refused calls too.
use Rattle.std.specs.Prelude.{ℕ, ◌≡◌, List, length}
use Rattle.meaning.specs.Table.{compile_refusal, compiled_into, decompile_refusal, decompiled_into}
use Rattle.meaning.specs.Cycle.{begin_refusal, begun_into, offer_answer, offered_into, goals_into, settle_answer, settled_into}

-- Compiling, of a file and an output buffer, that answers a number and leaves a buffer
pub record Compiled (f out : List ℕ) (answer : ℕ) (out' : List ℕ) : Type 0 where
  pub answer_is : answer ≡ compile_refusal f (length out)
  pub buffer_is : out' ≡ compiled_into f out

-- Decompiling, of a table and an output buffer
pub record Decompiled (t out : List ℕ) (answer : ℕ) (out' : List ℕ) : Type 0 where
  pub answer_is : answer ≡ decompile_refusal t (length out)
  pub buffer_is : out' ≡ decompiled_into t out

-- A beginning, of a table, an estimate and a record buffer, that answers a number and leaves a record
pub record Begun (t est r : List ℕ) (answer : ℕ) (r' : List ℕ) : Type 0 where
  pub answer_is : answer ≡ begin_refusal t est (length r)
  pub record_is : r' ≡ begun_into t est r

-- An offer, of a table, a record, a time and a goal buffer. "The freedom named in document 01 goes" (document 02, R-1): its answer is an equation too
pub record Offered (t r : List ℕ) (time : ℕ) (goals : List ℕ) (answer : ℕ) (r' goals' : List ℕ) : Type 0 where
  pub answer_is : answer ≡ offer_answer t r time (length goals)
  pub record_is : r' ≡ offered_into t r time (length goals)
  pub goals_are : goals' ≡ goals_into t r time goals

-- A settling, of a table, a record and an estimate
pub record Settled (t r est : List ℕ) (answer : ℕ) (r' : List ℕ) : Type 0 where
  pub answer_is : answer ≡ settle_answer t r est
  pub record_is : r' ≡ settled_into t r est
