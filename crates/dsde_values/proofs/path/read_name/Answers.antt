use Rattle.std.proofs.Common.{◌≡◌, ◌≢◌, ℕ, true, false, List, take, drop, sym, ◌∙◌, ap}
use Rattle.std.specs.Prelude.{Option}
use Rattle.dsde_values.specs.declared.name.Name.{Name}
use Rattle.dsde_words.specs.Words.{is_word}
use Rattle.dsde_values.specs.Path.{name_text, index_text, is_name, is_index}
use Rattle.dsde_values.proofs.Names.{stem_size, its_stem, its_index, its_front, its_back}
use Rattle.dsde_values.proofs.path.read_name.Goals as goal

no_stem : (text stem : List ℕ) → stem ≡ take (stem_size text) text → is_word stem ≡ false → (name : Name) → is_name name ≡ true → name_text name ≢ text
no_stem text stem front none name is same =
    let found : is_word stem ≡ true = ap is_word (front ∙ its_front name text is same) ∙ its_stem name text is same in cc

no_index_behind : (text rest : List ℕ) → rest ≡ drop (stem_size text) text → ((index : Option ℕ) → is_index index ≡ true → index_text index ≢ rest) → (name : Name) → is_name name ≡ true → name_text name ≢ text
no_index_behind text rest back none name is same =
    none name.index (its_index name text is same) (sym (its_back name text is same) ∙ sym back)

pub returns-then-not-is_word-clause-none : goal.returns-then-not-is_word-clause-none
returns-then-not-is_word-clause-none c = λ error.
    no_stem c.args.text.now c.split_at.result.0.now (c.split_at.ensures.front ∙ ap (λ (n : ℕ). take n c.args.text.now) c.word_size.ensures.size) (sym c.is_word.ensures ∙ c.if-not-is_word.true)

pub returns-in_default-clause-none : goal.returns-in_default-clause-none
returns-in_default-clause-none c = λ error.
    no_index_behind c.args.text.now c.split_at.result.1.now (c.split_at.ensures.back ∙ ap (λ (n : ℕ). drop n c.args.text.now) c.word_size.ensures.size) c.in_default.ensures.none
