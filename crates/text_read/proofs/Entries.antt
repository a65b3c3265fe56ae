-- How the readings as entries are made of one another.
use Prim.Native.Nat.{ℕ, suc}
use mathlib.Core.Path.{◌≡◌, refl, ap, sym, ◌∙◌}
use mathlib.Core.List.{List, [], ◌∷◌, ◌++◌, map, append-nil}
use lib.ListN.{length}
use Rattle.base.specs.Lists.{flat}
use Rattle.meaning.specs.declared.Operand.{Operand}
use Rattle.meaning.specs.declared.Entry.{Entry}
use Rattle.meaning.specs.declared.kinds.Kind.TheVariants.{Wait as WAIT, Maintain as MAINTAIN, Choice as CHOICE, Repeat as REPEAT}
use Rattle.meaning.specs.Kinds.{number_of}
use Rattle.meaning.specs.Tree.{Part, Parts, one, more, goal, start, wait, seq, par, maintain, choice, repeat, list_of, count, count_operand}
use Rattle.meaning.specs.Program.{preorder}
use Rattle.meaning.proofs.Trees.{preorder_law}
use Rattle.text_grammar.specs.declared.tokens.Mark.{Mark}
use Rattle.text_grammar.specs.declared.tokens.Mark.TheVariants.{StartWord as start_word, WaitWord as wait_word, MaintainWord as maintain_word, RepeatWord as repeat_word, IfWord as if_word, ThenWord as then_word, ElseWord as else_word, EqualSign as equal_sign, Semicolon as semicolon, Comma as comma, Opening as opening, Closing as closing}
use Rattle.text_grammar.specs.declared.tokens.Token.{Token}
use Rattle.text_grammar.specs.declared.tokens.Token.TheVariants.{Mark as mark, Number as number, Variable as variable, Clock as clock, Unknown as unknown}
use Rattle.text_grammar.specs.Tokens.{mark-discrete}
use Rattle.text_grammar.specs.Syntax.{Condition, Step, if_step, one_step, more_steps, one_sequence, more_sequences}
use Rattle.text_grammar.specs.Trees.{operand_of, condition_operand, step_tree, sequence_tree, step_trees, body_tree, sequence_trees}
use Rattle.text_grammar.specs.Parser.{Parsed, got, stopped, bind, when, on_mark, expect, parse_number, parse_clock, parse_value, parse_condition, sequence_rest, body_rest, close_group, parse_branches, parse_step, parse_sequence, parse_body}
use Rattle.text_grammar.proofs.Parsing.{sequence_law, body_law, goal_law, start_law, wait_law, maintain_law, repeat_law, if_law, group_law, bind-same, mark_same}
use Rattle.text_parts.specs.declared.Level.{Level}
use Rattle.text_parts.specs.declared.Level.TheVariants.{Steps, Sequences}
use Rattle.text_parts.specs.Stored.{entry, joining_kind, join_entries}
use Rattle.text_read.specs.Entries.{step_entries, sequence_entries, body_entries, alone, value_entries, condition_entries, goal_entries, start_entries, pass_mark, then_step, choice_entries, joining_mark, item_entries, further_entries, rest_entries, tail_entries}

-- reading on after reading on
pub bind-bind : {A B C : Type 0} (o : Parsed A) (f : A → List Token → Parsed B) (g : B → List Token → Parsed C) → bind (bind o f) g ≡ bind o (λ a rest. bind (f a rest) g)
unfolding bind
bind-bind (got a rest) f g = refl
bind-bind (stopped rest) f g = refl

module _ {A B : Type 0} (m : Mark) (g : A → List Token → Parsed B) where
  pub bind_mark : (ts : List Token) (f : List Token → Parsed A) (other : Parsed A) → bind (on_mark m ts f other) g ≡ on_mark m ts (λ rest. bind (f rest) g) (bind other g)
  unfolding on_mark
  bind_mark [] f other = refl
  bind_mark (mark k ∷ ts) f other = go (mark-discrete k m)
    where
      go : (d : Dec (k ≡ m)) → bind (when d (f ts) other) g ≡ when d (bind (f ts) g) (bind other g)
      go (yes e) = refl
      go (no e) = refl
  bind_mark (number n ∷ ts) f other = refl
  bind_mark (variable n ∷ ts) f other = refl
  bind_mark (clock n ∷ ts) f other = refl
  bind_mark (unknown ∷ ts) f other = refl

-- the entries of a part over others
count_length : (ps : Parts) → count ps ≡ length (map preorder (list_of ps))
count_length (one p) = refl
count_length (more p ps) = ap suc (count_length ps)

module _ (l : Level) (part : Parts → Part) (over : (ps : Parts) → preorder (part ps) ≡ entry (joining_kind l) (count_operand (count ps)) ∷ flat preorder (list_of ps)) where
  join_law : (p : Part) (ps : Parts) → join_entries l (preorder p) (map preorder (list_of ps)) ≡ preorder (part (more p ps))
  unfolding join_entries
  join_law p (one q) = sym (over (more p (one q)))
  join_law p (more q qs) = rw (over (more p (more q qs)), count_length qs)

pub seq_joined : (p : Part) (ps : Parts) → join_entries Steps (preorder p) (map preorder (list_of ps)) ≡ preorder (seq (more p ps))
unfolding joining_kind
seq_joined = join_law Steps seq (λ ps. preorder_law (seq ps))

pub par_joined : (p : Part) (ps : Parts) → join_entries Sequences (preorder p) (map preorder (list_of ps)) ≡ preorder (par (more p ps))
unfolding joining_kind
par_joined = join_law Sequences par (λ ps. preorder_law (par ps))

-- Items joined by a mark, at either level: a list is an item, and the mark with a list after it or nothing
module _ {I L : Type 0} (l : Level) (m : Mark) (parse_item : List Token → Parsed I) (parse_list : List Token → Parsed L)
    (one_item : I → L) (more_items : I → L → L) (item_tree : I → Part) (list_tree : L → Part) (item_trees : L → Parts)
    (one_tree : (i : I) → list_tree (one_item i) ≡ item_tree i)
    (more-tree : (i : I) (q : L) → join_entries l (preorder (item_tree i)) (map preorder (list_of (item_trees q))) ≡ preorder (list_tree (more_items i q)))
    (one_list : (i : I) → list_of (item_trees (one_item i)) ≡ item_tree i ∷ [])
    (more-list : (i : I) (q : L) → list_of (item_trees (more_items i q)) ≡ item_tree i ∷ list_of (item_trees q))
    (List-law : (ts : List Token) → parse_list ts ≡ bind (parse_item ts) (λ i rest. on_mark m rest (λ r. bind (parse_list r) (λ q end. got (more_items i q) end)) (got (one_item i) rest)))
  where
    abbrev entries_of_item : I → List Token → Parsed (List Entry)
    entries_of_item i rest = got (preorder (item_tree i)) rest

    abbrev entries_of_list : L → List Token → Parsed (List Entry)
    entries_of_list q rest = got (preorder (list_tree q)) rest

    abbrev entries_of_each : L → List Token → Parsed (List (List Entry))
    entries_of_each q rest = got (map preorder (list_of (item_trees q))) rest

    abbrev further : List Token → Parsed (List (List Entry))
    further ts = on_mark m ts (λ rest. bind (parse_list rest) entries_of_each) (got [] ts)

    -- what is made of the list after an item
    after_item : {C : Type 0} (g : L → List Token → Parsed C) (i : I) (ts : List Token)
        → bind (on_mark m ts (λ r. bind (parse_list r) (λ q end. got (more_items i q) end)) (got (one_item i) ts)) g
        ≡ on_mark m ts (λ r. bind (parse_list r) (λ q end. g (more_items i q) end)) (g (one_item i) ts)
    unfolding bind
    after_item g i ts =
        bind_mark m g ts _ _ ∙ mark_same m ts _ _ _ (λ r e. bind-bind (parse_list r) _ g)

    pub list_entries : (ts : List Token)
        → bind (parse_list ts) entries_of_list ≡ bind (bind (parse_item ts) entries_of_item) (λ es rest. bind (further rest) (λ fss end. got (join_entries l es fss) end))
    unfolding bind join_entries
    list_entries ts =
        rw (List-law ts, bind-bind (parse_item ts) _ entries_of_list, bind-bind (parse_item ts) entries_of_item _)
        (bind-same (parse_item ts) _ _ (λ i rest e.
        after_item entries_of_list i rest
        ∙ rw (one_tree i)
        (sym (bind_mark m _ rest _ _ ∙ mark_same m rest _ _ _ (λ r z. bind-bind (parse_list r) entries_of_each _ ∙ bind-same (parse_list r) _ _ (λ q end w. rw (more-tree i q)))))))

    pub further_entries_lem : (ts : List Token)
        → further ts ≡ on_mark m ts (λ rest. bind (bind (parse_item rest) entries_of_item) (λ fs after. bind (further after) (λ fss end. got (fs ∷ fss) end))) (got [] ts)
    unfolding bind
    further_entries_lem ts =
        mark_same m ts _ _ _ (λ rest e.
        rw (List-law rest, bind-bind (parse_item rest) _ entries_of_each, bind-bind (parse_item rest) entries_of_item _)
        (bind-same (parse_item rest) _ _ (λ i after z.
        after_item entries_of_each i after
        ∙ rw (one_list i)
        (sym (bind_mark m _ after _ _ ∙ mark_same m after _ _ _ (λ r y. bind-bind (parse_list r) entries_of_each _ ∙ bind-same (parse_list r) _ _ (λ q end w. rw (more-list i q))))))))

pub sequence_entries_lem : (ts : List Token) → sequence_entries ts ≡ bind (step_entries ts) (rest_entries Steps)
unfolding sequence_entries step_entries rest_entries further_entries sequence_tree step_trees sequence_rest
sequence_entries_lem = list_entries Steps semicolon parse_step parse_sequence one_step more_steps step_tree sequence_tree step_trees (λ s. refl) (λ s q. seq_joined (step_tree s) (step_trees q)) (λ s. refl) (λ s q. refl) sequence_law

pub body_entries_lem : (ts : List Token) → body_entries ts ≡ bind (sequence_entries ts) (rest_entries Sequences)
unfolding body_entries sequence_entries rest_entries further_entries body_tree sequence_trees body_rest
body_entries_lem = list_entries Sequences comma parse_sequence parse_body one_sequence more_sequences sequence_tree body_tree sequence_trees (λ q. refl) (λ q b. par_joined (sequence_tree q) (sequence_trees b)) (λ q. refl) (λ q b. refl) body_law

pub further_law : (l : Level) (ts : List Token)
    → further_entries l ts ≡ on_mark (joining_mark l) ts (λ rest. bind (item_entries l rest) (λ fs after. bind (further_entries l after) (λ fss end. got (fs ∷ fss) end))) (got [] ts)
unfolding further_entries joining_mark item_entries step_entries sequence_entries step_trees sequence_trees sequence_tree body_tree sequence_rest body_rest
further_law Steps = further_entries_lem Steps semicolon parse_step parse_sequence one_step more_steps step_tree sequence_tree step_trees (λ s. refl) (λ s q. seq_joined (step_tree s) (step_trees q)) (λ s. refl) (λ s q. refl) sequence_law
further_law Sequences = further_entries_lem Sequences comma parse_sequence parse_body one_sequence more_sequences sequence_tree body_tree sequence_trees (λ q. refl) (λ q b. par_joined (sequence_tree q) (sequence_trees b)) (λ q. refl) (λ q b. refl) body_law

-- A step, by its first token
maintain_inside : (o : Operand) (p : Part) → preorder (maintain o p) ≡ entry MAINTAIN o ∷ preorder p
maintain_inside o p = rw (preorder_law (maintain o p), append-nil (preorder p))

repeat_inside : (p : Part) → preorder (repeat p) ≡ entry REPEAT (count_operand 0) ∷ preorder p
repeat_inside p = rw (preorder_law (repeat p), append-nil (preorder p))

choice_inside : (o : Operand) (p q : Part) → preorder (choice o p q) ≡ entry CHOICE o ∷ (preorder p ++ preorder q)
choice_inside o p q = rw (preorder_law (choice o p q), append-nil (preorder q))

then_step_lem : (es : List Entry) (ts : List Token) → then_step es ts ≡ bind (parse_step ts) (λ s rest. got (es ++ preorder (step_tree s)) rest)
unfolding then_step step_entries bind
then_step_lem es ts = bind-bind (parse_step ts) _ _

-- the branches of an `if`, after its condition
module _ (o : Condition) where
  abbrev choice_entry : Entry
  choice_entry = entry CHOICE (condition_operand o)

  else_entries : (s : Step) (ts : List Token)
      → bind (expect else_word ts (λ rest. bind (parse_step rest) (λ u end. got (if_step o s u) end))) (λ s rest. got (preorder (step_tree s)) rest)
      ≡ bind (pass_mark else_word (choice_entry ∷ preorder (step_tree s)) ts) then_step
  unfolding pass_mark step_tree bind
  else_entries s ts =
      bind_mark else_word _ ts _ _ ∙ sym (bind_mark else_word then_step ts _ _ ∙ mark_same else_word ts _ _ _ (λ r e.
      then_step_lem (choice_entry ∷ preorder (step_tree s)) r ∙ sym (bind-bind (parse_step r) _ _ ∙ bind-same (parse_step r) _ _ (λ u end z. rw (choice_inside (condition_operand o) (step_tree s) (step_tree u))))))

  branches_entries : (ts : List Token)
      → bind (parse_branches parse_step o ts) (λ s rest. got (preorder (step_tree s)) rest)
      ≡ bind (bind (bind (pass_mark then_word (choice_entry ∷ []) ts) then_step) (pass_mark else_word)) then_step
  unfolding parse_branches pass_mark bind
  branches_entries ts =
      bind_mark then_word _ ts _ _
      ∙ sym (ap (λ (x : Parsed (List Entry)). bind (bind x (pass_mark else_word)) then_step) (bind_mark then_word then_step ts _ _)
      ∙ ap (λ (x : Parsed (List Entry)). bind x then_step) (bind_mark then_word (pass_mark else_word) ts _ _)
      ∙ bind_mark then_word then_step ts _ _
      ∙ mark_same then_word ts _ _ _ (λ r e.
      rw (then_step_lem (choice_entry ∷ []) r, bind-bind (parse_step r) _ (pass_mark else_word), bind-bind (parse_step r) _ then_step)
      (sym (bind-bind (parse_step r) _ _ ∙ bind-same (parse_step r) _ _ (λ s after z. else_entries s after)))))

module _ (ts : List Token) where
  pub goal_entries_lem : (v : ℕ) → step_entries (variable v ∷ ts) ≡ goal_entries v ts
  unfolding step_entries parse_value goal_entries value_entries step_tree bind
  goal_entries_lem v =
      rw (goal_law ts v) (bind_mark equal_sign _ ts _ _
      ∙ mark_same equal_sign ts _ _ _ (λ r e. bind-bind (parse_number r) _ _ ∙ bind-same (parse_number r) _ _ (λ n end z. rw (preorder_law (goal (operand_of 0 v n))))))

  pub start_entries_lem : step_entries (mark start_word ∷ ts) ≡ start_entries ts
  unfolding step_entries start_entries step_tree bind
  start_entries_lem = rw (start_law ts) (bind-bind (parse_clock ts) _ _ ∙ bind-same (parse_clock ts) _ _ (λ c rest e. rw (preorder_law (start (operand_of 0 c 0)))))

  pub wait_entries : step_entries (mark wait_word ∷ ts) ≡ condition_entries (number_of WAIT) ts
  unfolding step_entries condition_entries step_tree bind
  wait_entries = rw (wait_law ts) (bind-bind (parse_condition ts) _ _ ∙ bind-same (parse_condition ts) _ _ (λ o rest e. rw (preorder_law (wait (condition_operand o)))))

  pub maintain_entries : step_entries (mark maintain_word ∷ ts) ≡ bind (condition_entries (number_of MAINTAIN) ts) then_step
  unfolding step_entries condition_entries then_step step_tree bind
  maintain_entries =
      rw (maintain_law ts) (bind-bind (parse_condition ts) _ _ ∙ sym (bind-bind (parse_condition ts) _ then_step ∙ bind-same (parse_condition ts) _ _ (λ o rest e.
      bind-bind (parse_step rest) _ _ ∙ sym (bind-bind (parse_step rest) _ _ ∙ bind-same (parse_step rest) _ _ (λ s end z. rw (maintain_inside (condition_operand o) (step_tree s)))))))

  pub repeat_entries : step_entries (mark repeat_word ∷ ts) ≡ then_step (alone (number_of REPEAT) (count_operand 0)) ts
  unfolding step_entries then_step step_tree bind
  repeat_entries =
      rw (repeat_law ts) (bind-bind (parse_step ts) _ _ ∙ sym (bind-bind (parse_step ts) _ _ ∙ bind-same (parse_step ts) _ _ (λ s end e. rw (repeat_inside (step_tree s)))))

  pub group_entries : step_entries (mark opening ∷ ts) ≡ bind (body_entries ts) (pass_mark closing)
  unfolding step_entries body_entries close_group pass_mark step_tree bind
  group_entries =
      rw (group_law ts) (bind-bind (parse_body ts) _ _ ∙ sym (bind-bind (parse_body ts) _ (pass_mark closing) ∙ bind-same (parse_body ts) _ _ (λ b rest e.
      sym (bind_mark closing _ rest _ _))))

  pub if_entries : step_entries (mark if_word ∷ ts) ≡ choice_entries ts
  unfolding step_entries condition_entries choice_entries bind
  if_entries =
      rw (if_law ts, bind-bind (parse_condition ts) _ (pass_mark then_word), bind-bind (parse_condition ts) _ then_step, bind-bind (parse_condition ts) _ (pass_mark else_word), bind-bind (parse_condition ts) _ then_step)
      (bind-bind (parse_condition ts) _ _ ∙ bind-same (parse_condition ts) _ _ (λ o rest e. branches_entries o rest))

-- a body, by its first step; and one that begins with a bracket, by the body inside
pub body_first : (ts : List Token) → body_entries ts ≡ bind (step_entries ts) tail_entries
unfolding tail_entries
body_first ts = rw (body_entries_lem ts, sequence_entries_lem ts) (bind-bind (step_entries ts) (rest_entries Steps) (rest_entries Sequences))

pub body_group : (ts : List Token) → body_entries (mark opening ∷ ts) ≡ bind (bind (body_entries ts) (pass_mark closing)) tail_entries
body_group ts = rw (body_first (mark opening ∷ ts), group_entries ts)
