-- The examples of document 02's R-5, computed by the definitions.
use Prim.Native.Nat.{ℕ, ◌+◌, ◌*◌}
use Prim.Native.Char.{code}
use Prim.Native.String.{String}
use mathlib.Core.Path.{◌≡◌, refl}
use mathlib.Core.List.{List, [], ◌∷◌, ◌++◌}
use lib.ListN.{length, drop, replicate}
use Rattle.base.specs.Lists.{concat, tabulate, flag}
use Rattle.meaning.specs.Program.{preorder, file_of}
use Rattle.meaning.proofs.Computed.{◌gets◌, Holds, read}
use Rattle.text_grammar.specs.Characters.{bytes, is_blank, is_digit, is_word_byte}
use Rattle.text_grammar.specs.Tokens.{Mark, start_word, wait_word, maintain_word, repeat_word, if_word, then_word, else_word, equal_sign, differs_sign, at_least_sign, below_sign, semicolon, comma, opening, closing, colon, Token, mark, number, variable, clock, unknown, spelling, decimal_from, leading_zero, is_number, named_token, token_among, token_of}
use Rattle.meaning.specs.Kinds.{test_number}
use Rattle.text_grammar.specs.Trees.{condition_operand, step_tree, sequence_tree, step_trees, body_tree, sequence_trees, text_file}
use Rattle.text_grammar.specs.Lexer.{joins, end_run, begin_run, tokens_after, tokens}
use Rattle.text_grammar.specs.Parser.{bind, on_mark, parse_number, parse_clock, parse_value, parse_condition, sequence_rest, body_rest, close_group, parse_branches, step_within, sequence_within, body_within, parse_body, end_text, parse_text, whole, reading}
use Rattle.text_grammar.specs.Assembling.{refusal_of, assemble_refusal, file_in, assembled_into}

-- The refusal of a text, 0 where there is none. To unfold this is to unfold all that it, and the file that comes out, are computed with
unfoldable pub assemble : List ℕ → ℕ → ℕ
unfolding read is_blank is_digit is_word_byte spelling decimal_from leading_zero is_number named_token token_among token_of joins end_run begin_run tokens_after tokens bind on_mark parse_number parse_clock parse_value parse_condition sequence_rest body_rest close_group parse_branches step_within sequence_within body_within parse_body end_text parse_text whole reading test_number condition_operand step_tree sequence_tree step_trees body_tree sequence_trees text_file preorder file_of refusal_of assemble_refusal file_in assembled_into
assemble t room = assemble_refusal t room

-- a buffer larger than any file here
abbrev buffer : List ℕ
buffer = replicate 100 9

-- what assembling a text into it answers, and the buffer afterwards
abbrev assembling : String → ℕ × List ℕ
assembling s = (assemble (bytes s) (length buffer), assembled_into (bytes s) buffer)

-- the file stands in front, and further bytes are untouched
abbrev file : List ℕ → ℕ × List ℕ
file f = (0, f ++ drop (length f) buffer)

abbrev refused : ℕ → ℕ × List ℕ
refused n = (n, buffer)

-- the file of GOAL 0=1
abbrev goal : List ℕ
goal = 1 ∷ 1 ∷ 1 ∷ 1 ∷ 0 ∷ 0 ∷ 1 ∷ 0 ∷ []

-- Texts by what document 02 says of them
pub examples : Holds
    (assembling "1 1: start c0 ; wait c0>=10" gets file (3 ∷ 1 ∷ 1 ∷ 4 ∷ 2 ∷ 3 ∷ 2 ∷ 0 ∷ 0 ∷ 0 ∷ 0 ∷ 0 ∷ 0 ∷ 0 ∷ 3 ∷ 0 ∷ 10 ∷ 0 ∷ [])  -- the paper's text, and station 10's file
    -- "spaces or line ends may stand between signs and at both ends"; "a line end is byte `0A`"
    ∷ assembling "1 1:v0=1" gets file goal
    ∷ assembling "\n 1\n1 : v0\n=\n1 \n" gets file goal
    ∷ assembling "1 1:\tv0=1" gets refused 16
    ∷ assembling "1 1:v0=1\r\n" gets refused 16
    ∷ assembling "1 1:v0=1\0" gets refused 16
    -- "`v0`, `c0`, `!=` and `>=` are one sign each"
    ∷ assembling "1 1:v 0=1" gets refused 16
    ∷ assembling "1 1:start c 0" gets refused 16
    ∷ assembling "1 1:wait v0! =1" gets refused 16
    ∷ assembling "1 1:wait c0> =1" gets refused 16
    ∷ assembling "1 1:w ait v0=1" gets refused 16
    -- "At least one space or line end stands where a letter or digit would otherwise follow a word, number, `v0` or `c0` directly"
    ∷ assembling "1 1:repeat(v0=1)" gets file (2 ∷ 1 ∷ 1 ∷ 8 ∷ 1 ∷ 0 ∷ 0 ∷ 0 ∷ 0 ∷ 0 ∷ 0 ∷ 1 ∷ 0 ∷ [])
    ∷ assembling "1 1:maintain c0<5(v0=1)" gets file (2 ∷ 1 ∷ 1 ∷ 6 ∷ 1 ∷ 4 ∷ 0 ∷ 5 ∷ 0 ∷ 0 ∷ 0 ∷ 1 ∷ 0 ∷ [])
    ∷ assembling "1 1:if v0=1 then(v0=2)else(v0=3)" gets file (3 ∷ 1 ∷ 1 ∷ 7 ∷ 1 ∷ 1 ∷ 1 ∷ 0 ∷ 1 ∷ 0 ∷ 0 ∷ 0 ∷ 2 ∷ 0 ∷ 0 ∷ 0 ∷ 3 ∷ 0 ∷ [])
    ∷ assembling "11:v0=1" gets refused 16
    ∷ assembling "1 1:startc0" gets refused 16
    ∷ assembling "1 1:repeatv0=1" gets refused 16
    ∷ assembling "1 1:waitv0=1" gets refused 16
    ∷ assembling "1 1:maintain c0<5v0=1" gets refused 16
    ∷ assembling "1 1:if v0=1then v0=2 else v0=3" gets refused 16
    ∷ assembling "1 1:if v0=1 thenv0=2 else v0=3" gets refused 16
    ∷ assembling "1 1:if v0=1 then v0=2else v0=3" gets refused 16
    -- "Words are small letters"
    ∷ assembling "1 1:V0=1" gets refused 16
    ∷ assembling "1 1:Start c0" gets refused 16
    ∷ assembling "1 1:start C0" gets refused 16
    ∷ assembling "1 1:WAIT v0=1" gets refused 16
    -- "numbers in decimal up to 65535 without leading zeros"
    ∷ assembling "1 0:v0=0" gets file (1 ∷ 1 ∷ 0 ∷ 1 ∷ 0 ∷ 0 ∷ 0 ∷ 0 ∷ [])
    ∷ assembling "01 1:v0=1" gets refused 16
    ∷ assembling "1 00:v0=1" gets refused 16
    ∷ assembling "1 1:v00=1" gets refused 16
    ∷ assembling "1 1:v01=1" gets refused 16
    ∷ assembling "1 1:start c00" gets refused 16
    ∷ assembling "1 1:v0=00" gets refused 16
    ∷ assembling "1 1:v0=01" gets refused 16
    ∷ assembling "65536 1:v0=1" gets refused 16
    ∷ assembling "1 65536:v0=1" gets refused 16
    ∷ assembling "1 1:v65536=1" gets refused 16
    ∷ assembling "1 1:start c65536" gets refused 16
    ∷ assembling "1 1:v0=65536" gets refused 16
    ∷ assembling "1 1:wait c0<65536" gets refused 16
    ∷ assembling "1 1:v=1" gets refused 16
    ∷ assembling "1 1:v0=" gets refused 16
    ∷ assembling "1 1:v0=-1" gets refused 16
    ∷ assembling "1 1:v0=x" gets refused 16
    -- the steps and the conditions
    ∷ assembling "1 1:start c0" gets file (1 ∷ 1 ∷ 1 ∷ 2 ∷ 0 ∷ 0 ∷ 0 ∷ 0 ∷ [])
    ∷ assembling "1 1:wait v0=250" gets file (1 ∷ 1 ∷ 1 ∷ 3 ∷ 1 ∷ 0 ∷ 250 ∷ 0 ∷ [])
    ∷ assembling "1 1:wait v0!=250" gets file (1 ∷ 1 ∷ 1 ∷ 3 ∷ 2 ∷ 0 ∷ 250 ∷ 0 ∷ [])
    ∷ assembling "1 1:wait c0>=65535" gets file (1 ∷ 1 ∷ 1 ∷ 3 ∷ 3 ∷ 0 ∷ 255 ∷ 255 ∷ [])
    ∷ assembling "1 1:wait c0<256" gets file (1 ∷ 1 ∷ 1 ∷ 3 ∷ 4 ∷ 0 ∷ 0 ∷ 1 ∷ [])
    ∷ assembling "2 2:maintain v1!=1 repeat start c1" gets file (3 ∷ 2 ∷ 2 ∷ 6 ∷ 8 ∷ 2 ∷ 2 ∷ 1 ∷ 1 ∷ 0 ∷ 0 ∷ 0 ∷ 0 ∷ 0 ∷ 0 ∷ 1 ∷ 0 ∷ 0 ∷ [])
    ∷ assembling "1 1:if c0>=5 then v0=1 else wait c0<6" gets file (3 ∷ 1 ∷ 1 ∷ 7 ∷ 1 ∷ 3 ∷ 3 ∷ 0 ∷ 5 ∷ 0 ∷ 0 ∷ 0 ∷ 1 ∷ 0 ∷ 4 ∷ 0 ∷ 6 ∷ 0 ∷ [])
    ∷ assembling "1 1:c0=1" gets refused 16
    ∷ assembling "1 1:v0!=1" gets refused 16
    ∷ assembling "1 1:c0>=5" gets refused 16
    ∷ assembling "1 1:start v0" gets refused 16
    ∷ assembling "1 1:start 0" gets refused 16
    ∷ assembling "1 1:wait" gets refused 16
    ∷ assembling "1 1:wait v0" gets refused 16
    ∷ assembling "1 1:wait v0>=1" gets refused 16
    ∷ assembling "1 1:wait v0<1" gets refused 16
    ∷ assembling "1 1:wait c0=5" gets refused 16
    ∷ assembling "1 1:wait c0!=5" gets refused 16
    ∷ assembling "1 1:wait c0>5" gets refused 16
    ∷ assembling "1 1:v0==1" gets refused 16
    ∷ assembling "1 1:v0=v0" gets refused 16
    ∷ assembling "1 1:repeat" gets refused 16
    ∷ assembling "1 1:maintain v0=1" gets refused 16
    ∷ assembling "1 1:maintain(v0=1)" gets refused 16
    ∷ assembling "1 1:wait(v0=1)" gets refused 16
    ∷ assembling "1 1:if v0=1 then v0=2" gets refused 16
    ∷ assembling "1 1:if v0=1 else v0=2" gets refused 16
    ∷ assembling "1 1:if v0=1 v0=2 else v0=3" gets refused 16
    ∷ assembling "1 1:else v0=1" gets refused 16
    ∷ assembling "1 1:try c0<5 do v0=1 else v0=2" gets refused 16
    -- "V and K come before the colon"
    ∷ assembling "" gets refused 16
    ∷ assembling "1" gets refused 16
    ∷ assembling "1 1" gets refused 16
    ∷ assembling "1 1:" gets refused 16
    ∷ assembling "1 1: \n" gets refused 16
    ∷ assembling "1:v0=1" gets refused 16
    ∷ assembling ":v0=1" gets refused 16
    ∷ assembling "1 1 1:v0=1" gets refused 16
    ∷ assembling "1 1;v0=1" gets refused 16
    ∷ assembling "v0 c0:v0=1" gets refused 16
    ∷ assembling "1 1:1 1:v0=1" gets refused 16
    -- "Prefix words bind tightest, then `;` (SEQ), then `,` (PAR)"
    ∷ assembling "1 1:repeat v0=1;v0=2" gets file (4 ∷ 1 ∷ 1 ∷ 4 ∷ 8 ∷ 1 ∷ 1 ∷ 2 ∷ 0 ∷ 0 ∷ 0 ∷ 0 ∷ 0 ∷ 0 ∷ 0 ∷ 0 ∷ 0 ∷ 1 ∷ 0 ∷ 0 ∷ 0 ∷ 2 ∷ 0 ∷ [])
    ∷ assembling "1 1:maintain c0<5 v0=1,v0=2" gets file (4 ∷ 1 ∷ 1 ∷ 5 ∷ 6 ∷ 1 ∷ 1 ∷ 2 ∷ 0 ∷ 0 ∷ 0 ∷ 4 ∷ 0 ∷ 5 ∷ 0 ∷ 0 ∷ 0 ∷ 1 ∷ 0 ∷ 0 ∷ 0 ∷ 2 ∷ 0 ∷ [])
    ∷ assembling "1 1:if v0=1 then v0=1 else v0=2;v0=3" gets file (5 ∷ 1 ∷ 1 ∷ 4 ∷ 7 ∷ 1 ∷ 1 ∷ 1 ∷ 2 ∷ 0 ∷ 0 ∷ 0 ∷ 1 ∷ 0 ∷ 1 ∷ 0 ∷ 0 ∷ 0 ∷ 1 ∷ 0 ∷ 0 ∷ 0 ∷ 2 ∷ 0 ∷ 0 ∷ 0 ∷ 3 ∷ 0 ∷ [])
    ∷ assembling "1 1:if v0=1 then v0=1;v0=2 else v0=3" gets refused 16
    ∷ assembling "1 1:if v0=1 then v0=1,v0=2 else v0=3" gets refused 16
    ∷ assembling "1 1:if v0=1 then (v0=1;v0=2) else v0=3" gets file (5 ∷ 1 ∷ 1 ∷ 7 ∷ 4 ∷ 1 ∷ 1 ∷ 1 ∷ 1 ∷ 0 ∷ 1 ∷ 0 ∷ 2 ∷ 0 ∷ 0 ∷ 0 ∷ 0 ∷ 0 ∷ 1 ∷ 0 ∷ 0 ∷ 0 ∷ 2 ∷ 0 ∷ 0 ∷ 0 ∷ 3 ∷ 0 ∷ [])
    ∷ assembling "1 1:v0=1;v0=2,v0=3" gets file (5 ∷ 1 ∷ 1 ∷ 5 ∷ 4 ∷ 1 ∷ 1 ∷ 1 ∷ 2 ∷ 0 ∷ 0 ∷ 0 ∷ 2 ∷ 0 ∷ 0 ∷ 0 ∷ 0 ∷ 0 ∷ 1 ∷ 0 ∷ 0 ∷ 0 ∷ 2 ∷ 0 ∷ 0 ∷ 0 ∷ 3 ∷ 0 ∷ [])
    ∷ assembling "1 1:(v0=1;v0=2),v0=3" gets file (5 ∷ 1 ∷ 1 ∷ 5 ∷ 4 ∷ 1 ∷ 1 ∷ 1 ∷ 2 ∷ 0 ∷ 0 ∷ 0 ∷ 2 ∷ 0 ∷ 0 ∷ 0 ∷ 0 ∷ 0 ∷ 1 ∷ 0 ∷ 0 ∷ 0 ∷ 2 ∷ 0 ∷ 0 ∷ 0 ∷ 3 ∷ 0 ∷ [])
    ∷ assembling "1 1:v0=1,v0=2;v0=3" gets file (5 ∷ 1 ∷ 1 ∷ 5 ∷ 1 ∷ 4 ∷ 1 ∷ 1 ∷ 2 ∷ 0 ∷ 0 ∷ 0 ∷ 0 ∷ 0 ∷ 1 ∷ 0 ∷ 2 ∷ 0 ∷ 0 ∷ 0 ∷ 0 ∷ 0 ∷ 2 ∷ 0 ∷ 0 ∷ 0 ∷ 3 ∷ 0 ∷ [])
    ∷ assembling "1 1:v0=1;(v0=2,v0=3)" gets file (5 ∷ 1 ∷ 1 ∷ 4 ∷ 1 ∷ 5 ∷ 1 ∷ 1 ∷ 2 ∷ 0 ∷ 0 ∷ 0 ∷ 0 ∷ 0 ∷ 1 ∷ 0 ∷ 2 ∷ 0 ∷ 0 ∷ 0 ∷ 0 ∷ 0 ∷ 2 ∷ 0 ∷ 0 ∷ 0 ∷ 3 ∷ 0 ∷ [])
    -- "Steps joined by the same sign make one part with that many children, a bracketed group remains a part of its own, and a single step makes no SEQ or PAR"
    ∷ assembling "1 1:v0=1;v0=2;v0=3" gets file (4 ∷ 1 ∷ 1 ∷ 4 ∷ 1 ∷ 1 ∷ 1 ∷ 3 ∷ 0 ∷ 0 ∷ 0 ∷ 0 ∷ 0 ∷ 1 ∷ 0 ∷ 0 ∷ 0 ∷ 2 ∷ 0 ∷ 0 ∷ 0 ∷ 3 ∷ 0 ∷ [])
    ∷ assembling "1 1:v0=1,v0=2,v0=3" gets file (4 ∷ 1 ∷ 1 ∷ 5 ∷ 1 ∷ 1 ∷ 1 ∷ 3 ∷ 0 ∷ 0 ∷ 0 ∷ 0 ∷ 0 ∷ 1 ∷ 0 ∷ 0 ∷ 0 ∷ 2 ∷ 0 ∷ 0 ∷ 0 ∷ 3 ∷ 0 ∷ [])
    ∷ assembling "1 1:(v0=1;v0=2);v0=3" gets file (5 ∷ 1 ∷ 1 ∷ 4 ∷ 4 ∷ 1 ∷ 1 ∷ 1 ∷ 2 ∷ 0 ∷ 0 ∷ 0 ∷ 2 ∷ 0 ∷ 0 ∷ 0 ∷ 0 ∷ 0 ∷ 1 ∷ 0 ∷ 0 ∷ 0 ∷ 2 ∷ 0 ∷ 0 ∷ 0 ∷ 3 ∷ 0 ∷ [])
    ∷ assembling "1 1:v0=1;(v0=2;v0=3)" gets file (5 ∷ 1 ∷ 1 ∷ 4 ∷ 1 ∷ 4 ∷ 1 ∷ 1 ∷ 2 ∷ 0 ∷ 0 ∷ 0 ∷ 0 ∷ 0 ∷ 1 ∷ 0 ∷ 2 ∷ 0 ∷ 0 ∷ 0 ∷ 0 ∷ 0 ∷ 2 ∷ 0 ∷ 0 ∷ 0 ∷ 3 ∷ 0 ∷ [])
    ∷ assembling "1 1:(v0=1,v0=2),v0=3" gets file (5 ∷ 1 ∷ 1 ∷ 5 ∷ 5 ∷ 1 ∷ 1 ∷ 1 ∷ 2 ∷ 0 ∷ 0 ∷ 0 ∷ 2 ∷ 0 ∷ 0 ∷ 0 ∷ 0 ∷ 0 ∷ 1 ∷ 0 ∷ 0 ∷ 0 ∷ 2 ∷ 0 ∷ 0 ∷ 0 ∷ 3 ∷ 0 ∷ [])
    ∷ assembling "1 1:v0=1,(v0=2,v0=3)" gets file (5 ∷ 1 ∷ 1 ∷ 5 ∷ 1 ∷ 5 ∷ 1 ∷ 1 ∷ 2 ∷ 0 ∷ 0 ∷ 0 ∷ 0 ∷ 0 ∷ 1 ∷ 0 ∷ 2 ∷ 0 ∷ 0 ∷ 0 ∷ 0 ∷ 0 ∷ 2 ∷ 0 ∷ 0 ∷ 0 ∷ 3 ∷ 0 ∷ [])
    ∷ assembling "1 1:(v0=1)" gets file goal
    ∷ assembling "1 1:((v0=1;v0=2))" gets file (3 ∷ 1 ∷ 1 ∷ 4 ∷ 1 ∷ 1 ∷ 2 ∷ 0 ∷ 0 ∷ 0 ∷ 0 ∷ 0 ∷ 1 ∷ 0 ∷ 0 ∷ 0 ∷ 2 ∷ 0 ∷ [])
    ∷ assembling "1 1:()" gets refused 16
    ∷ assembling "1 1:v0=1;()" gets refused 16
    ∷ assembling "1 1:repeat()" gets refused 16
    ∷ assembling "1 1:;" gets refused 16
    ∷ assembling "1 1:v0=1;" gets refused 16
    ∷ assembling "1 1:,v0=1" gets refused 16
    ∷ assembling "1 1:v0=1;,v0=2" gets refused 16
    ∷ assembling "1 1:v0=1 v0=2" gets refused 16
    ∷ assembling "1 1:(v0=1" gets refused 16
    ∷ assembling "1 1:v0=1)" gets refused 16
    ∷ assembling "1 1:((v0=1)" gets refused 16
    ∷ assembling "1 1:(1 1:v0=1)" gets refused 16
    -- 2: "a size outside its range", also one that no byte holds
    ∷ assembling "32 16:v31=250" gets file (1 ∷ 32 ∷ 16 ∷ 1 ∷ 0 ∷ 31 ∷ 250 ∷ 0 ∷ [])
    ∷ assembling "0 1:v0=1" gets refused 2
    ∷ assembling "33 1:v0=1" gets refused 2
    ∷ assembling "1 17:v0=1" gets refused 2
    ∷ assembling "300 1:v0=1" gets refused 2
    ∷ assembling "257 1:v0=1" gets refused 2
    ∷ assembling "1 256:v0=1" gets refused 2
    ∷ assembling "65535 1:v0=1" gets refused 2
    -- 5: "operand not allowed", also a variable or clock that no byte holds
    ∷ assembling "1 1:v1=1" gets refused 5
    ∷ assembling "1 1:v256=1" gets refused 5
    ∷ assembling "1 1:v300=1" gets refused 5
    ∷ assembling "1 1:v65535=1" gets refused 5
    ∷ assembling "1 1:wait v256=1" gets refused 5
    ∷ assembling "1 1:start c1" gets refused 5
    ∷ assembling "1 0:start c0" gets refused 5
    ∷ assembling "1 1:start c256" gets refused 5
    ∷ assembling "1 1:wait c256<5" gets refused 5
    ∷ assembling "1 1:v0=251" gets refused 5
    ∷ assembling "1 1:v0=256" gets refused 5
    ∷ assembling "1 1:v0=65535" gets refused 5
    ∷ assembling "1 1:wait v0=251" gets refused 5
    ∷ assembling "1 1:wait v0!=251" gets refused 5
    ∷ assembling "1 1:wait v0=256" gets refused 5
    -- "16 .. given first; then 2, 5"
    ∷ assembling "0 1:v0=1;" gets refused 16
    ∷ assembling "33 17:v0=1 x" gets refused 16
    ∷ assembling "1 1:v300=1;()" gets refused 16
    ∷ assembling "0 1:v300=1" gets refused 2
    ∷ assembling "1 17:v0=251" gets refused 2
    ∷ [])
unfolding assemble
examples = refl

-- n REPEATs above a step; n goals joined to one more; a goal in n pairs of brackets; a goal after n spaces
abbrev repeats : String → ℕ → String → List ℕ
repeats sizes n step = bytes sizes ++ (concat (replicate n (bytes "repeat ")) ++ bytes step)

abbrev goals : ℕ → List ℕ
goals n = bytes "1 1:" ++ (concat (replicate n (bytes "v0=1;")) ++ bytes "v0=1")

abbrev brackets : ℕ → List ℕ
brackets n = bytes "1 1:" ++ (replicate n (code "(") ++ (bytes "v0=1" ++ replicate n (code ")")))

abbrev spaces : ℕ → List ℕ
spaces n = replicate n (code " ") ++ bytes "1 1:v0=1"

-- The bounds, and the order of the refusals
pub bounds : Holds
    (assemble (bytes "1 1:v0=1") 8 gets 0  -- 8: "output buffer too short", last of all
    ∷ assemble (bytes "1 1:v0=1") 7 gets 8
    ∷ assemble (bytes "1 1: start c0 ; wait c0>=10") 18 gets 0
    ∷ assemble (bytes "1 1: start c0 ; wait c0>=10") 17 gets 8
    ∷ assemble (bytes "1 1:v0") 0 gets 16
    ∷ assemble (bytes "0 1:v0=1") 0 gets 2
    ∷ assemble (bytes "1 1:v1=1") 0 gets 5
    ∷ assemble (repeats "1 1:" 16 "v0=1") 0 gets 7
    ∷ assemble (repeats "1 1:" 15 "v0=1") 100 gets 0  -- 7: "depth above 16", after 16, 2 and 5
    ∷ assemble (repeats "1 1:" 15 "((v0=1))") 100 gets 0
    ∷ assemble (repeats "1 1:" 16 "v0=1") 100 gets 7
    ∷ assemble (repeats "1 1:" 16 "v1=1") 100 gets 5
    ∷ assemble (repeats "0 1:" 16 "v1=1") 100 gets 2
    ∷ assemble (repeats "0 1:" 16 "()") 100 gets 16
    ∷ assemble (goals 198) 1003 gets 0  -- 2: 200 parts at most
    ∷ assemble (goals 199) 2000 gets 2
    ∷ assemble (goals 254) 2000 gets 2  -- 256 and 257 parts, of which N would hold 0 and 1
    ∷ assemble (goals 255) 2000 gets 2
    ∷ assemble (repeats "1 1:" 200 "v0=1") 2000 gets 2  -- too many parts, and too deep
    ∷ assemble (spaces 16376) 8 gets 0  -- "at most 16,384 bytes"
    ∷ assemble (spaces 16377) 8 gets 16
    ∷ assemble (brackets 100) 8 gets 0  -- brackets have no depth of their own
    ∷ [])
unfolding assemble
bounds = refl

-- 1 for a blank, 4 for a letter, and 4 + 2 for a digit
abbrev class : ℕ → ℕ
class b = flag (is_blank b) + 2 * flag (is_digit b) + 4 * flag (is_word_byte b)

-- every byte: a line end, a space, 0 to 9, and a to z
pub classes : tabulate class 0 256
    ≡ replicate 10 0 ++ (1 ∷ replicate 21 0 ++ (1 ∷ replicate 15 0 ++ (replicate 10 6 ++ (replicate 39 0 ++ (replicate 26 4 ++ replicate 133 0)))))
unfolding assemble
classes = refl

-- the bytes that a mark is spelled with, and the token that is found in them
abbrev spelled : Mark → List ℕ × Token
spelled m = (spelling m, token_of (spelling m))

pub spellings : Holds
    (spelled start_word gets (0x73 ∷ 0x74 ∷ 0x61 ∷ 0x72 ∷ 0x74 ∷ [], mark start_word)
    ∷ spelled wait_word gets (0x77 ∷ 0x61 ∷ 0x69 ∷ 0x74 ∷ [], mark wait_word)
    ∷ spelled maintain_word gets (0x6D ∷ 0x61 ∷ 0x69 ∷ 0x6E ∷ 0x74 ∷ 0x61 ∷ 0x69 ∷ 0x6E ∷ [], mark maintain_word)
    ∷ spelled repeat_word gets (0x72 ∷ 0x65 ∷ 0x70 ∷ 0x65 ∷ 0x61 ∷ 0x74 ∷ [], mark repeat_word)
    ∷ spelled if_word gets (0x69 ∷ 0x66 ∷ [], mark if_word)
    ∷ spelled then_word gets (0x74 ∷ 0x68 ∷ 0x65 ∷ 0x6E ∷ [], mark then_word)
    ∷ spelled else_word gets (0x65 ∷ 0x6C ∷ 0x73 ∷ 0x65 ∷ [], mark else_word)
    ∷ spelled equal_sign gets (0x3D ∷ [], mark equal_sign)
    ∷ spelled differs_sign gets (0x21 ∷ 0x3D ∷ [], mark differs_sign)
    ∷ spelled at_least_sign gets (0x3E ∷ 0x3D ∷ [], mark at_least_sign)
    ∷ spelled below_sign gets (0x3C ∷ [], mark below_sign)
    ∷ spelled semicolon gets (0x3B ∷ [], mark semicolon)
    ∷ spelled comma gets (0x2C ∷ [], mark comma)
    ∷ spelled opening gets (0x28 ∷ [], mark opening)
    ∷ spelled closing gets (0x29 ∷ [], mark closing)
    ∷ spelled colon gets (0x3A ∷ [], mark colon)
    ∷ [])
unfolding assemble
spellings = refl

-- numbers and names, and runs that are neither
pub numbers : Holds
    (token_of (bytes "0") gets number 0
    ∷ token_of (bytes "9") gets number 9
    ∷ token_of (bytes "10") gets number 10
    ∷ token_of (bytes "65535") gets number 65535
    ∷ token_of (bytes "65536") gets unknown
    ∷ token_of (bytes "00") gets unknown
    ∷ token_of (bytes "01") gets unknown
    ∷ token_of (bytes "") gets unknown
    ∷ token_of (bytes "1a") gets unknown
    ∷ token_of (bytes "v0") gets variable 0
    ∷ token_of (bytes "v65535") gets variable 65535
    ∷ token_of (bytes "c256") gets clock 256
    ∷ token_of (bytes "v") gets unknown
    ∷ token_of (bytes "v00") gets unknown
    ∷ token_of (bytes "c65536") gets unknown
    ∷ token_of (bytes "k0") gets unknown
    ∷ token_of (bytes "!") gets unknown
    ∷ [])
unfolding assemble
numbers = refl
