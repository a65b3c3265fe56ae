-- Where texts stop, computed: the mistakes that docs/TEXT.md lists, and the bounds. A place is one less than the column in the first line.
use Prim.Native.Nat.{ℕ}
use Prim.Native.Char.{code}
use mathlib.Core.Path.{refl}
use mathlib.Core.List.{List, [], ◌∷◌, ◌++◌}
use lib.ListN.{replicate}
use Rattle.meaning.proofs.Computed.{◌gets◌, Holds}
use Rattle.text_grammar.specs.Characters.{bytes}
use Rattle.text_grammar.proofs.Examples.{assemble}
use Rattle.text_stops.specs.Places.{goes_on, places_after, places, place_of_last, stop_of, stop_place}

-- To unfold this is to unfold all that it is computed with
unfoldable pub stop : List ℕ → ℕ
unfolding assemble goes_on places_after places place_of_last stop_of stop_place
stop t = stop_place t

-- "the first sign with which no text that fits goes on"
pub mistakes : Holds
    (stop (bytes "1 1: if v0=1 then v0=2 ; v0=3 else v0=4") gets 23  -- `;` in a branch
    ∷ stop (bytes "1 1: if v0=1 then v0=2") gets 22  -- no `else`: the text's end
    ∷ stop (bytes "1 1: startc0") gets 5
    ∷ stop (bytes "1 1: if v0=0 then v0=1else v0=2") gets 21
    ∷ stop (bytes "11: v0=1") gets 2
    ∷ stop (bytes "1 1: Start c0") gets 5
    ∷ stop (bytes "1 1: V0=1") gets 5
    ∷ stop (bytes "1 1:\tv0=1") gets 4
    ∷ stop (bytes "1 1: v00=1") gets 5
    ∷ stop (bytes "1 1: v 0=1") gets 5
    ∷ stop (bytes "1 1: v0=1 ;") gets 11
    ∷ stop (bytes "1 1: ()") gets 6
    ∷ stop (bytes "1 1: v0=1 v0=2") gets 10
    ∷ stop (bytes "1 1: wait c0=5") gets 12
    ∷ stop (bytes "1 1: wait c0>5") gets 12
    ∷ stop (bytes "1 1: wait v0>=1") gets 12
    ∷ stop (bytes "1 1: v0>=1") gets 7
    ∷ stop (bytes "1 1: wait 10") gets 10
    ∷ stop (bytes "2 1: maintain v0=1") gets 18
    -- blanks before the token, after it, and at the text's end
    ∷ stop (bytes "1 1: v0=1 \n  v0=2 ") gets 13
    ∷ stop (bytes "1 1: (v0=1 \n ") gets 13
    -- two runs that are no token, one after the other: the place is that of the first, not one inside it
    ∷ stop (bytes "1 1: abc abc") gets 5
    ∷ stop (bytes "1 1: wait v0!==1") gets 14
    ∷ stop (bytes "") gets 0
    ∷ stop (bytes "  ") gets 2
    -- a text that fits: its end
    ∷ stop (bytes "1 1: v0=1 ") gets 10
    ∷ [])
unfolding stop
mistakes = refl

-- "A text has at most 16,384 bytes": of one that is longer nothing is read
pub longest : Holds
    (stop (bytes "(" ++ replicate 16383 (code " ")) gets 0
    ∷ stop (bytes "(" ++ replicate 16384 (code " ")) gets 16384
    ∷ [])
unfolding stop
longest = refl
