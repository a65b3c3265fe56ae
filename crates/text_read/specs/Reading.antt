-- What the readers promise: where they end or stop, and what the buffer then holds.
use Rattle.std.specs.Prelude.{ℕ, zero, suc, ◌+◌, ◌≤◌, ◌≡◌, List, ◌∷◌, length, Result, Ok, Err, unwrap_or}
use Rattle.meaning.specs.declared.Entry.{Entry}
use Rattle.meaning.specs.Program.{preorder}
use Rattle.text_grammar.specs.declared.tokens.Mark.{Mark}
use Rattle.text_grammar.specs.declared.tokens.Mark.TheVariants.{Opening as opening}
use Rattle.text_grammar.specs.declared.tokens.Token.{Token}
use Rattle.text_grammar.specs.declared.tokens.Token.TheVariants.{Mark as mark, Unknown as unknown}
use Rattle.text_grammar.specs.Syntax.{Text}
use Rattle.text_grammar.specs.Trees.{body_tree}
use Rattle.text_grammar.specs.Texts.{max_text_length}
use Rattle.text_grammar.specs.Lexer.{tokens_from}
use Rattle.text_grammar.specs.Parser.{Parsed, got, stopped}
use Rattle.text_stops.specs.Places.{cut_at}
use Rattle.text_tokens.specs.First.{first_token}
use Rattle.text_parts.specs.Stored.{Stands}
use Rattle.text_read.specs.declared.Reached.{Reached}
use Rattle.text_read.specs.declared.Stop.{Stop}
use Rattle.text_read.specs.declared.Header.{Header}
use Rattle.text_read.specs.declared.Program.{Program}
use Rattle.text_read.specs.Entries.{pass_mark, SizesRead}

-- what reading comes to: the place after what was read and the number of parts, or the place where the text stops
abbrev pub Read : Type 0
Read = Result Reached Stop

abbrev pub Ends : ℕ → ℕ → Read
Ends e n = Ok (record { place = e; parts = n })

abbrev pub Stops : {A : Type 0} → ℕ → Result A Stop
Stops e = Err (record { place = e })

-- r says that the entries es, which stand in b from part n on, were read, and the tokens `rest` are left
pub record Ended (t b₀ : List ℕ) (n : ℕ) (r : Read) (b : List ℕ) (es : List Entry) (rest : List Token) : Type 0 where
  pub next : ℕ
  pub parts : ℕ
  pub answer_is : r ≡ Ends next parts
  pub rest_is : tokens_from t next ≡ rest
  pub stands : Stands b₀ n b parts es

-- r says that no text goes on with the first of the tokens `rest`
pub record Stopped (t : List ℕ) (r : Read) (rest : List Token) : Type 0 where
  pub place : ℕ
  pub answer_is : r ≡ Stops place
  pub rest_is : tokens_from t place ≡ rest

-- The answer r and the buffer b are those of a reading; where it stopped, the buffer is left open
unfoldable pub Does : List ℕ → List ℕ → ℕ → Read → List ℕ → Parsed (List Entry) → Type 0
Does t b₀ n r b (got es rest) = Ended t b₀ n r b es rest
Does t b₀ n r b (stopped rest) = Stopped t r rest

-- After the entries es, which stand in b from part n on, what stands at `at` is read by f too
pub record Continues (f : List Entry → List Token → Parsed (List Entry)) (t : List ℕ) (n : ℕ) (at : Reached) (b : List ℕ) (r : Read) (b' : List ℕ) : Type 0 where
  pub continues : (b₀ : List ℕ) (es : List Entry) → Stands b₀ n b at.parts es → Does t b₀ n r b' (f es (tokens_from t at.place))

-- A mark is passed, wherever the entries before it begin
pub record Passes (t : List ℕ) (at : Reached) (m : Mark) (r : Read) : Type 0 where
  pub passes : (n : ℕ) (b : List ℕ) → Continues (pass_mark m) t n at b r b

-- The first token, by whose kind a reader goes: no sign where there is none
unfoldable pub next_token : List Token → Token
next_token ts = unwrap_or (first_token ts) unknown

-- The number that stands first, or the place e where none does
unfoldable pub number_or_stop : ℕ → Parsed ℕ → Result ℕ Stop
number_or_stop e (got n rest) = Ok n
number_or_stop e (stopped rest) = Stops e

abbrev pub place_of : Read → ℕ
place_of (Ok at) = at.place
place_of (Err stop) = stop.place

abbrev pub parts_of : Read → ℕ
parts_of (Ok at) = at.parts
parts_of (Err stop) = 0

-- What a reader asks of a place and of the number of parts before it: no token is cut there, and each part has a byte of the text
pub record Room (t : List ℕ) (e n : ℕ) : Type 0 where
  pub short_enough : length t ≤ max_text_length
  pub inside : e ≤ length t
  pub uncut : cut_at t e ≡ 0
  pub parts_fit : n ≤ e

-- From place e and n parts to place e' and n' parts: each new part has a byte of the text
pub record Moves (t : List ℕ) (e n e' n' : ℕ) : Type 0 where
  pub onward : e ≤ e'
  pub inside : e' ≤ length t
  pub uncut : cut_at t e' ≡ 0
  pub parts_fit : n' + e ≤ n + e'

-- so many opening brackets, and then these tokens
unfoldable pub openings : ℕ → List Token → List Token
openings zero ts = ts
openings (suc k) ts = mark opening ∷ openings k ts

-- `brackets` opening brackets stand from place `from` on, before place `place`
pub record Bracketed (t : List ℕ) (from brackets place : ℕ) : Type 0 where
  pub tokens_are : tokens_from t from ≡ openings brackets (tokens_from t place)
  pub onward : from + brackets ≤ place
  pub inside : place ≤ length t
  pub uncut : cut_at t place ≡ 0

-- The sizes of a text, and the place after its colon
pub record HeaderEnded (t : List ℕ) (r : Result Header Stop) (s : SizesRead) (rest : List Token) : Type 0 where
  pub body : ℕ
  pub answer_is : r ≡ Ok (record { variables = s.variables; clocks = s.clocks; body = body })
  pub inside : body ≤ length t
  pub uncut : cut_at t body ≡ 0
  pub rest_is : tokens_from t body ≡ rest

-- The text stops at a place, from which on the tokens `rest` are left
pub record TextStopped {A : Type 0} (t : List ℕ) (r : Result A Stop) (rest : List Token) : Type 0 where
  pub place : ℕ
  pub answer_is : r ≡ Stops place
  pub inside : place ≤ length t
  pub uncut : cut_at t place ≡ 0
  pub rest_is : tokens_from t place ≡ rest

unfoldable pub ReadsHeader : List ℕ → Result Header Stop → Parsed SizesRead → Type 0
ReadsHeader t r (got s rest) = HeaderEnded t r s rest
ReadsHeader t r (stopped rest) = TextStopped t r rest

-- The program of a text: its sizes, and the entries of its tree, which stand in b from the begin on
pub record TextEnded (t b₀ : List ℕ) (r : Result Program Stop) (b : List ℕ) (x : Text) : Type 0 where
  pub parts : ℕ
  pub answer_is : r ≡ Ok (record { parts = parts; variables = x.variables; clocks = x.clocks })
  pub stands : Stands b₀ 0 b parts (preorder (body_tree x.body))

unfoldable pub ReadsText : List ℕ → List ℕ → Result Program Stop → List ℕ → Parsed Text → Type 0
ReadsText t b₀ r b (got x rest) = TextEnded t b₀ r b x
ReadsText t b₀ r b (stopped rest) = TextStopped t r rest
