-- Events and the parts of their lines.
use Rattle.std.proofs.Common.{◌≡◌, ℕ, ◌<◌, inl, inr, true, false, List, ◌∷◌, ◌++◌, refl, sym, ◌∙◌, ap, codes, decimal}
use Rattle.std.specs.Prelude.{Option, Some, None}
use Rattle.std.specs.Option.{option_map}
use Rattle.std.proofs.lemmas.List.{append_cancel_right}
use Rattle.dsde_syntax.specs.declared.decl.Model.{Model}
use Rattle.dsde_values.specs.Path.{IsPath, path_text}
use Rattle.dsde_values.specs.declared.path.Path.{Path}
use Rattle.dsde_values.specs.declared.value.Value.{Value}
use Rattle.dsde_values.specs.declared.when.When.{When}
use Rattle.dsde_formalism.specs.declared.leaf.MoveKind.{MoveKind}
use Rattle.dsde_language.specs.declared.ids.ModelId.{ModelId}
use Rattle.dsde_language.specs.DeclaredModels.{top_outs, types_of}
use Rattle.dsde_input_records.specs.Lines.{Lacks}
use Rattle.dsde_input_parser.specs.lemmas.Cuts.{no_cut, same_cut}
use Rattle.dsde_sim_tree.specs.declared.event.Event.{Event}
use Rattle.dsde_sim_tree.specs.declared.event.Event.TheVariants.{AddNet, AddLeaf, Turn, Out, Get, Move, Drop, Finish}
use Rattle.dsde_sim_tree.specs.declared.event.Finish as finish
use Rattle.dsde_trace.specs.Text.{model_text, states_at}
use Rattle.dsde_trace_words.specs.Names.{ending_text, line_word_text}
use Rattle.dsde_trace_words.specs.Words.{Finds, Inverts, IsAny, IsCount, IsPassed, NoneBefore, Pairs, Precedes, Spells, is_executive, passed_text, settled_text}
use Rattle.dsde_trace_words.specs.declared.names.Ending.{Ending}
use Rattle.dsde_trace_words.specs.declared.names.LineWord.{LineWord}
use Rattle.dsde_trace_words.specs.declared.names.LineWord.TheVariants as word
use Rattle.dsde_trace_words.specs.lemmas.Behind.{From, finds-as, finds-through}
use Rattle.dsde_trace_words.specs.lemmas.Lacking.{Lacks-path}
use Rattle.dsde_trace_words.specs.lemmas.Pairing.{pair-is, pair-no_second}
use Rattle.dsde_trace_reading.specs.Lines.{ComesBefore, IsLine}
use Rattle.dsde_trace_reading.specs.Parts.{IsEnded, IsGot, IsMoved, IsNet, IsOf, IsStateOf, Reads, at_text, behind_word, ended_text, ending_of, got_text, line_text, model_at, moved_text, net_text, state_text, word_of}
use Rattle.dsde_trace_reading.proofs.Lines.{line-is}
use Rattle.dsde_trace_reading.proofs.Naming.{Lacks-line_word}

-- Of what is first by nothing but its number, the number is less.
less : {B : Type 0} (one other : ℕ × B) → Precedes NoneBefore one other → one.0 < other.0
less one other before = elim before [ inl first ↦ first | inr same ↦ absurd same.1 ]

-- an event, by the word and what stands behind it
module _ (model : Model) (line : List ℕ) where
  abbrev pub ReadsLine : Option (LineWord × Event) → Type 0
  ReadsLine found = Pairs IsAny line_word_text ComesBefore (λ own. IsOf model own) (λ _. behind_word model) line found

  makes_line : (one : LineWord × Event) → (IsAny one.0 × IsOf model one.0 one.1) × (line ≡ line_word_text one.0 ++ 32 ∷ behind_word model one.1) → IsLine model line one.1
  makes_line one is = record {
    lawful = is.0.1.1;
    spelled = line-is model one.1
        ∙ ap (λ own. (line_word_text own ++ 32 ∷ behind_word model one.1) ++ codes "\n") is.0.1.0 ∙ ap (λ text. text ++ codes "\n") (sym is.1);
  }

  line_parts : (event : Event) → IsLine model line event →
      From (λ (one : LineWord × Event). (IsAny one.0 × IsOf model one.0 one.1) × (line ≡ line_word_text one.0 ++ 32 ∷ behind_word model one.1)) (λ one. one.1) event
  line_parts event is = record {
    one = (word_of event, event);
    is = ((tt, (refl, is.lawful)), append_cancel_right line (line_text model event) (codes "\n") (sym is.spelled ∙ line-is model event));
    same = refl;
  }

  pub line-reads : (found : Option (LineWord × Event)) → ReadsLine found → Finds ComesBefore (IsLine model line) (option_map (λ (one : LineWord × Event). one.1) found)
  line-reads found pairs =
      finds-through (λ (one other : LineWord × Event). ComesBefore one.1 other.1)
      (λ (one : LineWord × Event). (IsAny one.0 × IsOf model one.0 one.1) × (line ≡ line_word_text one.0 ++ 32 ∷ behind_word model one.1))
      ComesBefore (IsLine model line) (λ (one : LineWord × Event). one.1) makes_line line_parts (λ one other before. before) found pairs.finds

  pub line-told : (front rest : List ℕ) → line ≡ front ++ 32 ∷ rest → Lacks 32 front → (own : LineWord) → Inverts IsAny line_word_text front (Some own) →
      (found : Option Event) → Reads model own rest found → Finds ComesBefore (IsLine model line) found
  line-told front rest cut lacks own inverts None reads = line-reads None (pair-no_second Lacks-line_word front rest cut lacks own inverts reads)
  line-told front rest cut lacks own inverts (Some event) reads = line-reads (Some (own, event)) (pair-is Lacks-line_word front rest cut lacks own inverts event reads)

module _ (model : Model) (text : List ℕ) where
  -- a turn
  abbrev IsTurn : ℕ × ℕ → Type 0
  IsTurn one = (IsCount one.0 × IsCount one.1) × (text ≡ decimal one.0 ++ 32 ∷ at_text one.1)

  abbrev turn_of : ℕ × ℕ → Event
  turn_of one = Turn one.0 one.1

  turn_parts : (event : Event) → Spells (IsOf model word.Turn) (behind_word model) text event → From IsTurn turn_of event
  turn_parts (AddNet path number) is = absurd (cc is.0.0)
  turn_parts (AddLeaf path number state next) is = absurd (cc is.0.0)
  turn_parts (Turn number time) is = record { one = (number, time); is = (is.0.1, is.1); same = refl }
  turn_parts (Out port value) is = absurd (cc is.0.0)
  turn_parts (Get path number port value) is = absurd (cc is.0.0)
  turn_parts (Move path number kind state next) is = absurd (cc is.0.0)
  turn_parts (Drop path count) is = absurd (cc is.0.0)
  turn_parts (Finish end turns time) is = absurd (cc is.0.0)

  pub turn-reads : (found : Option (ℕ × ℕ)) → Pairs IsCount decimal NoneBefore (λ _. IsCount) (λ _. at_text) text found → Reads model word.Turn text (option_map turn_of found)
  turn-reads found pairs =
      finds-through (λ one other. ⊥) IsTurn ComesBefore (Spells (IsOf model word.Turn) (behind_word model) text) turn_of
      (λ one is. ((refl, is.0), is.1)) turn_parts (λ one other never. absurd never) found pairs.finds

  -- what the root sends
  abbrev IsOut : ℕ × Value → Type 0
  IsOut one = IsPassed (top_outs model) (types_of model) one × (text ≡ codes "root " ++ passed_text (top_outs model) (types_of model) one)

  abbrev out_of : ℕ × Value → Event
  out_of one = Out one.0 one.1

  out_parts : (event : Event) → Spells (IsOf model word.Out) (behind_word model) text event → From IsOut out_of event
  out_parts (AddNet path number) is = absurd (cc is.0.0)
  out_parts (AddLeaf path number state next) is = absurd (cc is.0.0)
  out_parts (Turn number time) is = absurd (cc is.0.0)
  out_parts (Out port value) is = record { one = (port, value); is = (is.0.1, is.1); same = refl }
  out_parts (Get path number port value) is = absurd (cc is.0.0)
  out_parts (Move path number kind state next) is = absurd (cc is.0.0)
  out_parts (Drop path count) is = absurd (cc is.0.0)
  out_parts (Finish end turns time) is = absurd (cc is.0.0)

  pub out-reads : (found : Option (ℕ × Value)) → Finds (Precedes NoneBefore) IsOut found → Reads model word.Out text (option_map out_of found)
  out-reads found finds =
      finds-through (Precedes NoneBefore) IsOut ComesBefore (Spells (IsOf model word.Out) (behind_word model) text) out_of
      (λ one is. ((refl, is.0), is.1)) out_parts (λ one other before. less one other before) found finds

  -- what comes to a component
  abbrev IsGet : Path × (ℕ × (ℕ × Value)) → Type 0
  IsGet one = (IsPath one.0 × IsGot model (is_executive one.0) one.1) × (text ≡ path_text one.0 ++ 32 ∷ got_text model one.1)

  abbrev get_of : Path × (ℕ × (ℕ × Value)) → Event
  get_of one = Get one.0 (model_at one.1.0) one.1.1.0 one.1.1.1

  get_parts : (event : Event) → Spells (IsOf model word.Get) (behind_word model) text event → From IsGet get_of event
  get_parts (AddNet path number) is = absurd (cc is.0.0)
  get_parts (AddLeaf path number state next) is = absurd (cc is.0.0)
  get_parts (Turn number time) is = absurd (cc is.0.0)
  get_parts (Out port value) is = absurd (cc is.0.0)
  get_parts (Get path number port value) is = record {
    one = (path, (number.0, (port, value)));
    is = ((is.0.1.0.0, (is.0.1.0.1, is.0.1.1)), is.1);
    same = refl;
  }
  get_parts (Move path number kind state next) is = absurd (cc is.0.0)
  get_parts (Drop path count) is = absurd (cc is.0.0)
  get_parts (Finish end turns time) is = absurd (cc is.0.0)

  get_before : (one other : Path × (ℕ × (ℕ × Value))) → Precedes (Precedes NoneBefore) one.1 other.1 → ComesBefore (get_of one) (get_of other)
  get_before one other before = elim before [
    | inl first ↦ inl first
    | inr same ↦ inr (same.0, less one.1.1 other.1.1 same.1)
  ]

  pub get-reads : (found : Option (Path × (ℕ × (ℕ × Value)))) →
      Pairs IsPath path_text (Precedes (Precedes NoneBefore)) (λ path. IsGot model (is_executive path)) (λ _. got_text model) text found → Reads model word.Get text (option_map get_of found)
  get-reads found pairs =
      finds-through (λ (one other : Path × (ℕ × (ℕ × Value))). Precedes (Precedes NoneBefore) one.1 other.1) IsGet ComesBefore (Spells (IsOf model word.Get) (behind_word model) text) get_of
      (λ one is. ((refl, ((is.0.0, is.0.1.0), is.0.1.1)), is.1)) get_parts get_before found pairs.finds

  -- a move
  abbrev IsMove : Path × (MoveKind × (ℕ × (List Value × When))) → Type 0
  IsMove one = (IsPath one.0 × IsMoved model (is_executive one.0) one.1) × (text ≡ path_text one.0 ++ 32 ∷ moved_text model one.1)

  abbrev move_of : Path × (MoveKind × (ℕ × (List Value × When))) → Event
  move_of one = Move one.0 (model_at one.1.1.0) one.1.0 one.1.1.1.0 one.1.1.1.1

  move_parts : (event : Event) → Spells (IsOf model word.Move) (behind_word model) text event → From IsMove move_of event
  move_parts (AddNet path number) is = absurd (cc is.0.0)
  move_parts (AddLeaf path number state next) is = absurd (cc is.0.0)
  move_parts (Turn number time) is = absurd (cc is.0.0)
  move_parts (Out port value) is = absurd (cc is.0.0)
  move_parts (Get path number port value) is = absurd (cc is.0.0)
  move_parts (Move path number kind state next) is = record {
    one = (path, (kind, (number.0, (state, next))));
    is = ((is.0.1.0.0, (tt, (is.0.1.0.1, is.0.1.1))), is.1);
    same = refl;
  }
  move_parts (Drop path count) is = absurd (cc is.0.0)
  move_parts (Finish end turns time) is = absurd (cc is.0.0)

  pub move-reads : (found : Option (Path × (MoveKind × (ℕ × (List Value × When))))) →
      Pairs IsPath path_text (λ (one other : MoveKind × (ℕ × (List Value × When))). Precedes NoneBefore one.1 other.1) (λ path. IsMoved model (is_executive path)) (λ _. moved_text model) text found →
      Reads model word.Move text (option_map move_of found)
  move-reads found pairs =
      finds-through (λ (one other : Path × (MoveKind × (ℕ × (List Value × When)))). Precedes NoneBefore one.1.1 other.1.1) IsMove ComesBefore (Spells (IsOf model word.Move) (behind_word model) text) move_of
      (λ one is. ((refl, ((is.0.0, is.0.1.1.0), is.0.1.1.1)), is.1)) move_parts (λ one other before. less one.1.1 other.1.1 before) found pairs.finds

  -- a drop
  abbrev IsDrop : Path × ℕ → Type 0
  IsDrop one = (IsPath one.0 × IsCount one.1) × (text ≡ path_text one.0 ++ 32 ∷ decimal one.1)

  abbrev drop_of : Path × ℕ → Event
  drop_of one = Drop one.0 one.1

  drop_parts : (event : Event) → Spells (IsOf model word.Drop) (behind_word model) text event → From IsDrop drop_of event
  drop_parts (AddNet path number) is = absurd (cc is.0.0)
  drop_parts (AddLeaf path number state next) is = absurd (cc is.0.0)
  drop_parts (Turn number time) is = absurd (cc is.0.0)
  drop_parts (Out port value) is = absurd (cc is.0.0)
  drop_parts (Get path number port value) is = absurd (cc is.0.0)
  drop_parts (Move path number kind state next) is = absurd (cc is.0.0)
  drop_parts (Drop path count) is = record { one = (path, count); is = (is.0.1, is.1); same = refl }
  drop_parts (Finish end turns time) is = absurd (cc is.0.0)

  pub drop-reads : (found : Option (Path × ℕ)) → Pairs IsPath path_text NoneBefore (λ _. IsCount) (λ _. decimal) text found → Reads model word.Drop text (option_map drop_of found)
  drop-reads found pairs =
      finds-through (λ one other. ⊥) IsDrop ComesBefore (Spells (IsOf model word.Drop) (behind_word model) text) drop_of
      (λ one is. ((refl, is.0), is.1)) drop_parts (λ one other never. absurd never) found pairs.finds

  -- an end
  abbrev IsEnd : Ending × (finish.Finish × (ℕ × ℕ)) → Type 0
  IsEnd one = (IsAny one.0 × IsEnded one.0 one.1) × (text ≡ ending_text one.0 ++ 32 ∷ ended_text one.1)

  abbrev end_of : Ending × (finish.Finish × (ℕ × ℕ)) → Event
  end_of one = Finish one.1.0 one.1.1.0 one.1.1.1

  end_parts : (event : Event) → Spells (IsOf model word.End) (behind_word model) text event → From IsEnd end_of event
  end_parts (AddNet path number) is = absurd (cc is.0.0)
  end_parts (AddLeaf path number state next) is = absurd (cc is.0.0)
  end_parts (Turn number time) is = absurd (cc is.0.0)
  end_parts (Out port value) is = absurd (cc is.0.0)
  end_parts (Get path number port value) is = absurd (cc is.0.0)
  end_parts (Move path number kind state next) is = absurd (cc is.0.0)
  end_parts (Drop path count) is = absurd (cc is.0.0)
  end_parts (Finish end turns time) is = record {
    one = (ending_of end, (end, (turns, time)));
    is = ((tt, record { ending = refl; lawful = is.0.1.0; times = (is.0.1.1, is.0.1.2) }), is.1);
    same = refl;
  }

  end_makes : (one : Ending × (finish.Finish × (ℕ × ℕ))) → IsEnd one → Spells (IsOf model word.End) (behind_word model) text (end_of one)
  end_makes one is = (
    (refl, (is.0.1.lawful, is.0.1.times.0, is.0.1.times.1)),
    is.1 ∙ ap (λ own. ending_text own ++ 32 ∷ ended_text one.1) (sym is.0.1.ending),
  )

  pub end-reads : (found : Option (Ending × (finish.Finish × (ℕ × ℕ)))) → Pairs IsAny ending_text NoneBefore IsEnded (λ _. ended_text) text found → Reads model word.End text (option_map end_of found)
  end-reads found pairs =
      finds-through (λ one other. ⊥) IsEnd ComesBefore (Spells (IsOf model word.End) (behind_word model) text) end_of
      end_makes end_parts (λ one other never. absurd never) found pairs.finds

  -- a component that starts: behind its path stands more than one word, or one
  module _ (named : (number : ModelId) → Lacks 32 (model_text model number)) (front rest : List ℕ) (cut : text ≡ front ++ 32 ∷ rest) (lacks : Lacks 32 front) where
    behind_path : (path : Path) (behind : List ℕ) → IsPath path → text ≡ path_text path ++ 32 ∷ behind → rest ≡ behind
    behind_path path behind is spelled = (same_cut 32 front rest (path_text path) behind (sym cut ∙ spelled) lacks (Lacks-path path is)).1

    -- a network
    abbrev IsAddNet : Path × ℕ → Type 0
    IsAddNet one = (IsPath one.0 × ((is_executive one.0 ≡ false) × IsNet model one.1)) × (text ≡ path_text one.0 ++ 32 ∷ net_text model one.1)

    abbrev net_of : Path × ℕ → Event
    net_of one = AddNet one.0 (model_at one.1)

    net_parts : Lacks 32 rest → (event : Event) → Spells (IsOf model word.Add) (behind_word model) text event → From IsAddNet net_of event
    net_parts one_word (AddNet path number) is = record { one = (path, number.0); is = ((is.0.1.0, (is.0.1.1, is.0.1.2)), is.1); same = refl }
    net_parts one_word (AddLeaf path number state next) is =
        absurd (no_cut 32 rest (model_text model number) (settled_text (states_at model number) (types_of model) (state, next)) one_word (behind_path path _ is.0.1.0.0 is.1))
    net_parts one_word (Turn number time) is = absurd (cc is.0.0)
    net_parts one_word (Out port value) is = absurd (cc is.0.0)
    net_parts one_word (Get path number port value) is = absurd (cc is.0.0)
    net_parts one_word (Move path number kind state next) is = absurd (cc is.0.0)
    net_parts one_word (Drop path count) is = absurd (cc is.0.0)
    net_parts one_word (Finish end turns time) is = absurd (cc is.0.0)

    pub net-reads : Lacks 32 rest → (found : Option (Path × ℕ)) →
        Pairs IsPath path_text ◌<◌ (λ path number. (is_executive path ≡ false) × IsNet model number) (λ _. net_text model) text found → Reads model word.Add text (option_map net_of found)
    net-reads one_word found pairs =
        finds-through (λ (one other : Path × ℕ). one.1 < other.1) IsAddNet ComesBefore (Spells (IsOf model word.Add) (behind_word model) text) net_of
        (λ one is. ((refl, (is.0.0, is.0.1.0, is.0.1.1)), is.1)) (net_parts one_word) (λ one other before. before) found pairs.finds

    -- an atomic component or an executive
    abbrev IsAddLeaf : Path × (ℕ × (List Value × When)) → Type 0
    IsAddLeaf one = (IsPath one.0 × IsStateOf model (is_executive one.0) one.1) × (text ≡ path_text one.0 ++ 32 ∷ (net_text model one.1.0 ++ 32 ∷ state_text model one.1))

    abbrev leaf_of : Path × (ℕ × (List Value × When)) → Event
    leaf_of one = AddLeaf one.0 (model_at one.1.0) one.1.1.0 one.1.1.1

    leaf_parts : (name state : List ℕ) → rest ≡ name ++ 32 ∷ state → (event : Event) → Spells (IsOf model word.Add) (behind_word model) text event → From IsAddLeaf leaf_of event
    leaf_parts name state two (AddNet path number) is =
        absurd (no_cut 32 (model_text model number) name state (named number) (sym (behind_path path _ is.0.1.0 is.1) ∙ two))
    leaf_parts name state two (AddLeaf path number values next) is = record {
      one = (path, (number.0, (values, next)));
      is = ((is.0.1.0.0, (is.0.1.0.1, is.0.1.1)), is.1);
      same = refl;
    }
    leaf_parts name state two (Turn number time) is = absurd (cc is.0.0)
    leaf_parts name state two (Out port value) is = absurd (cc is.0.0)
    leaf_parts name state two (Get path number port value) is = absurd (cc is.0.0)
    leaf_parts name state two (Move path number kind values next) is = absurd (cc is.0.0)
    leaf_parts name state two (Drop path count) is = absurd (cc is.0.0)
    leaf_parts name state two (Finish end turns time) is = absurd (cc is.0.0)

    pub leaf-reads : (name state : List ℕ) → rest ≡ name ++ 32 ∷ state → (found : Option (Path × (ℕ × (List Value × When)))) →
        Pairs IsPath path_text (Precedes NoneBefore) (λ path. IsStateOf model (is_executive path)) (λ _ one. net_text model one.0 ++ 32 ∷ state_text model one) text found →
        Reads model word.Add text (option_map leaf_of found)
    leaf-reads name state two found pairs =
        finds-through (λ (one other : Path × (ℕ × (List Value × When))). Precedes NoneBefore one.1 other.1) IsAddLeaf ComesBefore (Spells (IsOf model word.Add) (behind_word model) text) leaf_of
        (λ one is. ((refl, ((is.0.0, is.0.1.0), is.0.1.1)), is.1)) (leaf_parts name state two) (λ one other before. less one.1 other.1 before) found pairs.finds

-- A network is not an executive.
abbrev IsNetAt : Model → Path → ℕ → Type 0
IsNetAt model path number = (is_executive path ≡ false) × IsNet model number

pub net-finds : (model : Model) (path : Path) (rest : List ℕ) → is_executive path ≡ false → (found : Option ℕ) → Finds ◌<◌ (Spells (IsNet model) (net_text model) rest) found →
    Finds ◌<◌ (Spells (IsNetAt model path) (net_text model) rest) found
net-finds model path rest apart found finds =
    finds-as ◌<◌ (Spells (IsNet model) (net_text model) rest) (Spells (IsNetAt model path) (net_text model) rest) (λ one spells. ((apart, spells.0), spells.1)) (λ one spells. (spells.0.1, spells.1)) found finds

pub net-executive : (model : Model) (path : Path) (rest : List ℕ) → is_executive path ≡ true → Finds ◌<◌ (Spells (IsNetAt model path) (net_text model) rest) None
net-executive model path rest is = record { is = tt; only = λ one spells. let two : true ≡ false = sym is ∙ spells.0.0 in cc two }

-- Before there is a second word, nothing starts.
pub add-uncut : (model : Model) (text : List ℕ) → Lacks 32 text → Reads model word.Add text None
add-uncut model text lacks = record { is = tt; only = none }
  where
    none : (event : Event) → Spells (IsOf model word.Add) (behind_word model) text event → ⊥
    none (AddNet path number) is = no_cut 32 text (path_text path) _ lacks is.1
    none (AddLeaf path number state next) is = no_cut 32 text (path_text path) _ lacks is.1
    none (Turn number time) is = cc is.0.0
    none (Out port value) is = cc is.0.0
    none (Get path number port value) is = cc is.0.0
    none (Move path number kind state next) is = cc is.0.0
    none (Drop path count) is = cc is.0.0
    none (Finish end turns time) is = cc is.0.0

-- or where it is behind no path
pub add-no_path : (model : Model) (text front rest : List ℕ) → text ≡ front ++ 32 ∷ rest → Lacks 32 front → Inverts IsPath path_text front None → Reads model word.Add text None
add-no_path model text front rest cut lacks inverts = record { is = tt; only = none }
  where
    no_path : (path : Path) (behind : List ℕ) → IsPath path → text ≡ path_text path ++ 32 ∷ behind → ⊥
    no_path path behind is spelled =
        let none = inverts.only path is (same_cut 32 front rest (path_text path) behind (sym cut ∙ spelled) lacks (Lacks-path path is)).0 in cc none

    none : (event : Event) → Spells (IsOf model word.Add) (behind_word model) text event → ⊥
    none (AddNet path number) is = no_path path _ is.0.1.0 is.1
    none (AddLeaf path number state next) is = no_path path _ is.0.1.0.0 is.1
    none (Turn number time) is = cc is.0.0
    none (Out port value) is = cc is.0.0
    none (Get path number port value) is = cc is.0.0
    none (Move path number kind state next) is = cc is.0.0
    none (Drop path count) is = cc is.0.0
    none (Finish end turns time) is = cc is.0.0
