-- Readings that look no further than the first of the tokens that they leave, and after whose tokens a form goes on; and how they are put together.
use Prim.Native.Nat.{ℕ}
use mathlib.Core.Path.{◌≡◌, refl, ap, sym, ◌∙◌}
use mathlib.Core.List.{List, [], ◌∷◌, ◌++◌, append_assoc, append_cancel_right, append-eq-nil_iff}
use mathlib.Core.Option.{Option, none, some}
use native.Mathlib.Omega.{arith}
use Rattle.text_grammar.specs.declared.tokens.Mark.{Mark}
use Rattle.text_grammar.specs.declared.tokens.Token.{Token}
use Rattle.text_grammar.specs.declared.tokens.Token.TheVariants.{Mark as mark, Number as number, Variable as variable, Clock as clock, Unknown as unknown}
use Rattle.text_grammar.specs.Tokens.{mark-discrete}
use Rattle.text_grammar.specs.Parser.{Parsed, got, stopped, bind, when, on_mark, expect}
use Rattle.text_grammar.proofs.Complete.{on_mark_lem}
use Rattle.text_stops.specs.Stopping.{first_token}

-- what a reading gives that has found a form or none, and leaves these tokens
abbrev pub outcome : {A : Type 0} → Option A → List Token → Parsed A
outcome (some a) rest = got a rest
outcome none rest = stopped rest

-- The tokens that g puts first are those of the form that was found, written by w; where none was found, some form begins with them
abbrev pub GoesOn : {A : Type 0} → (List Token → List Token) → (A → List Token → List Token) → Option A → Type 0
GoesOn g w (some a) = (us : List Token) → w a us ≡ g us
GoesOn {A} g w none = (a : A) × (more : List Token) × ((us : List Token) → w a us ≡ g (more ++ us))

-- What p reads of the tokens `ts`, behind those that h puts first: it reads the same before all tokens that begin as those that it leaves
pub record Local {A : Type 0} (h : List Token → List Token) (w : A → List Token → List Token) (p : List Token → Parsed A) (ts : List Token) : Type 0 where
  pub before : List Token
  pub found : Option A
  pub rest : List Token
  pub all_are : ts ≡ before ++ rest
  pub same : (us : List Token) → first_token us ≡ first_token rest → p (before ++ us) ≡ outcome found us
  pub goes_on_lem : GoesOn (λ us. h (before ++ us)) w found

-- tokens that begin alike do so behind others too
first_behind : (before us rest : List Token) → first_token us ≡ first_token rest → first_token (before ++ us) ≡ first_token (before ++ rest)
unfolding first_token
first_behind [] us rest e = e
first_behind (t ∷ before) us rest e = refl

module _ {A : Type 0} (w : A → List Token → List Token) where
  -- with the same tokens put first
  along : {g h : List Token → List Token} → ((us : List Token) → g us ≡ h us) → (o : Option A) → GoesOn g w o → GoesOn h w o
  along e (some a) c = λ us. c us ∙ e us
  along e none c = (c.0, c.1, λ us. c.2 us ∙ e (c.1 ++ us))

  -- where a form was found, one begins so
  some_form : (g : List Token → List Token) (o : Option A) → GoesOn g w o → GoesOn g w none
  some_form g (some a) c = (a, [], c)
  some_form g none c = c

-- where p is local, some form begins with the tokens that are put first
form_of : {A : Type 0} {h : List Token → List Token} {w : A → List Token → List Token} {p : List Token → Parsed A} → Local h w p [] → GoesOn h w none
form_of {h} {w} l =
    let e : l.before ≡ [] = ((append-eq-nil_iff {p = l.before} {q = l.rest}).0 (sym l.all_are)).0 in
    some_form w h l.found (along w (λ us. ap (λ (b : List Token). h (b ++ us)) e) l.found l.goes_on_lem)

-- what p reads begins in the same way before all such tokens
first_same : {A : Type 0} {h : List Token → List Token} {w : A → List Token → List Token} {p : List Token → Parsed A} {ts : List Token} (l : Local h w p ts)
    (us : List Token) → first_token us ≡ first_token l.rest → first_token (l.before ++ us) ≡ first_token ts
first_same l us e = first_behind l.before us l.rest e ∙ ap first_token (sym l.all_are)

module _ {A : Type 0} {h : List Token → List Token} {w : A → List Token → List Token} where
  -- what stops at once, and what has found its form
  pub local_stopped : {ts : List Token} → GoesOn h w none → Local h w stopped ts
  local_stopped {ts} c = record { before = []; found = none; rest = ts; all_are = refl; same = λ us e. refl; goes_on_lem = c }

  pub local_got : {a : A} {ts : List Token} → ((us : List Token) → w a us ≡ h us) → Local h w (got a) ts
  local_got {a} {ts} c = record { before = []; found = some a; rest = ts; all_are = refl; same = λ us e. refl; goes_on_lem = c }

  module _ {p q : List Token → Parsed A} where
    -- what reads as q does there
    pub local_so : {ts : List Token} (l : Local h w q ts)
        → ((us : List Token) → first_token us ≡ first_token l.rest → p (l.before ++ us) ≡ outcome l.found us) → Local h w p ts
    local_so l same = record { before = l.before; found = l.found; rest = l.rest; all_are = l.all_are; same = same; goes_on_lem = l.goes_on_lem }

    -- what reads as q does all that begins as these tokens
    local_alike : {ts : List Token} → ((us : List Token) → first_token us ≡ first_token ts → p us ≡ q us) → Local h w q ts → Local h w p ts
    local_alike agree l = local_so l (λ us e. agree (l.before ++ us) (first_same l us e) ∙ l.same us e)

    -- so where nothing stands, and where the token t does
    pub at_end : p [] ≡ q [] → Local h w q [] → Local h w p []
    unfolding first_token
    at_end same = local_alike go
      where
        go : (us : List Token) → first_token us ≡ none → p us ≡ q us
        go [] e = same
        go (u ∷ us) e = absurd (let z : ◌≡◌ {A = ℕ} 0 1 = cc in omega arith)

    pub at_token : {t : Token} {ts : List Token} → ((us : List Token) → p (t ∷ us) ≡ q (t ∷ us)) → Local h w q (t ∷ ts) → Local h w p (t ∷ ts)
    unfolding first_token
    at_token {t} same = local_alike go
      where
        go : (us : List Token) → first_token us ≡ some t → p us ≡ q us
        go [] e = absurd (let z : ◌≡◌ {A = ℕ} 0 1 = cc in omega arith)
        go (u ∷ us) e = let i : u ≡ t = cc in rw i (same us)

    -- what reads the token t, and then as q
    pub local_token : {t : Token} {ts : List Token} → ((us : List Token) → p (t ∷ us) ≡ q us)
        → Local (λ us. h (t ∷ us)) w q ts → Local h w p (t ∷ ts)
    local_token {t} shift l =
        record {
          before = t ∷ l.before;
          found = l.found;
          rest = l.rest;
          all_are = ap (λ (us : List Token). t ∷ us) l.all_are;
          same = λ us e. shift (l.before ++ us) ∙ l.same us e;
          goes_on_lem = l.goes_on_lem;
        }

  -- what goes two ways by the mark m
  pub local_mark : (m : Mark) {f q : List Token → Parsed A} (ts : List Token)
      → ((rest : List Token) → Local (λ us. h (mark m ∷ us)) w f rest) → Local h w q ts → Local h w (λ us. on_mark m us f (q us)) ts
  unfolding on_mark
  local_mark m [] k l = at_end refl l
  local_mark m {f} {q} (mark i ∷ ts) k l = go (mark-discrete i m) (λ us. refl)
    where
      go : (d : Dec (i ≡ m)) → ((us : List Token) → on_mark m (mark i ∷ us) f (q (mark i ∷ us)) ≡ when d (f us) (q (mark i ∷ us)))
          → Local h w (λ us. on_mark m us f (q us)) (mark i ∷ ts)
      go (yes e) same = rw e (local_token (λ us. on_mark_lem m us f (q (mark m ∷ us))) (k ts))
      go (no e) same = at_token same l
  local_mark m (number n ∷ ts) k l = at_token (λ us. refl) l
  local_mark m (variable n ∷ ts) k l = at_token (λ us. refl) l
  local_mark m (clock n ∷ ts) k l = at_token (λ us. refl) l
  local_mark m (unknown ∷ ts) k l = at_token (λ us. refl) l

  -- what stops where the mark m does not stand
  pub local_expect : (m : Mark) {f : List Token → Parsed A} (ts : List Token)
      → ((rest : List Token) → Local (λ us. h (mark m ∷ us)) w f rest) → Local h w (λ us. expect m us f) ts
  local_expect m ts k = let c = form_of (k []) in local_mark m ts k (local_stopped (c.0, mark m ∷ c.1, c.2))

  -- what reads as p, and then as f
  module _ {B : Type 0} {f : B → List Token → Parsed A} where
    bind_found : (v : B → List Token → List Token) (p : List Token → Parsed B) (before rest : List Token) (o : Option B)
        → ((us : List Token) → first_token us ≡ first_token rest → p (before ++ us) ≡ outcome o us) → GoesOn (λ us. before ++ us) v o
        → ((b : B) (ts : List Token) → Local (λ us. h (v b us)) w (f b) ts) → Local h w (λ us. bind (p us) f) (before ++ rest)
    unfolding bind
    bind_found v p before rest none same c k =
        let d = form_of (k c.0 []) in
        record {
          before = before;
          found = none;
          rest = rest;
          all_are = refl;
          same = λ us e. ap (λ (o : Parsed B). bind o f) (same us e);
          goes_on_lem = (d.0, c.1 ++ d.1, λ us. rw append_assoc (d.2 us ∙ ap h (c.2 (d.1 ++ us))));
        }
    bind_found v p before rest (some b) same c k =
        let l = k b rest in
        record {
          before = before ++ l.before;
          found = l.found;
          rest = l.rest;
          all_are = rw append_assoc (ap (λ (us : List Token). before ++ us) l.all_are);
          same = λ us e. rw append_assoc (ap (λ (o : Parsed B). bind o f) (same (l.before ++ us) (first_same l us e)) ∙ l.same us e);
          goes_on_lem = along w {g = λ us. h (v b (l.before ++ us))} {h = λ us. h ((before ++ l.before) ++ us)} (λ us. rw append_assoc (ap h (c (l.before ++ us)))) l.found l.goes_on_lem;
        }

    pub local_bind : {v : B → List Token → List Token} {p : List Token → Parsed B} {ts : List Token}
        → Local (λ us. us) v p ts → ((b : B) (ts : List Token) → Local (λ us. h (v b us)) w (f b) ts) → Local h w (λ us. bind (p us) f) ts
    local_bind {v} {p} l k = rw l.all_are (bind_found v p l.before l.rest l.found l.same l.goes_on_lem k)

-- an outcome shows what was found and what is left
pub same_outcome : {A : Type 0} (o i : Option A) (us vs : List Token) → outcome o us ≡ outcome i vs → (o ≡ i) × (us ≡ vs)
same_outcome (some a) (some b) us vs e = (cc, cc)
same_outcome (some a) none us vs e = absurd (let z : ◌≡◌ {A = ℕ} 0 1 = cc in omega arith)
same_outcome none (some b) us vs e = absurd (let z : ◌≡◌ {A = ℕ} 0 1 = cc in omega arith)
same_outcome none none us vs e = (refl, cc)

module _ {A : Type 0} {h : List Token → List Token} {w : A → List Token → List Token} {ts : List Token} where
  -- what p gives of these tokens
  pub reads : {p : List Token → Parsed A} (l : Local h w p ts) → p ts ≡ outcome l.found l.rest
  reads {p} l = ap p l.all_are ∙ l.same l.rest refl

  -- what gives the same of them gives the same wherever p does
  pub reads_alike : {p q : List Token → Parsed A} (l : Local h w p ts) → Local h w q ts → p ts ≡ q ts
      → (us : List Token) → first_token us ≡ first_token l.rest → q (l.before ++ us) ≡ outcome l.found us
  reads_alike l k e us i =
      let j = same_outcome l.found k.found l.rest k.rest (sym (reads l) ∙ e ∙ reads k) in
      let b : l.before ≡ k.before = append_cancel_right l.before k.before k.rest (rw j.1 at (sym l.all_are) ∙ k.all_are) in
      rw (b, j.0) (k.same us (i ∙ ap first_token j.1))
