-- A whole model that was read.
use Rattle.std.proofs.Common.{◌≡◌, ◌<◌, ◌^◌, List, [], ◌∷◌, ◌++◌, length, map, Some, refl, sym, ap, subst, ◌∙◌, arith, append-nil}
use Rattle.std.specs.Prelude.{All}
use Rattle.std.proofs.lemmas.List.Elements.{All-cons, All-tail}
use Rattle.dsde_syntax.specs.declared.token.Token.{Token}
use Rattle.dsde_syntax.specs.declared.decl.Decl.{Decl}
use Rattle.dsde_syntax.specs.declared.decl.Model.{Model}
use Rattle.dsde_syntax.specs.Spelling.{IsToken, HasToken}
use Rattle.dsde_syntax.specs.Grammar.{Tokens, decl_tokens, tokens_of}
use Rattle.dsde_syntax.specs.Places.{decl_span}
use Rattle.dsde_syntax.specs.Levels.{is_decl}
use Rattle.dsde_syntax.specs.Shape.{IsShaped}
use Rattle.dsde_parser_expressions.specs.Took.{Spot, TookAll}
use Rattle.dsde_parser_expressions.specs.Parts.{AllOk, joined_by, all_by}

abbrev pub toks_of : List Token → Tokens
toks_of = map (λ (token : Token). token.tok)

pub all-toks : (tokens : List Token) → All HasToken tokens → All IsToken (toks_of tokens)
all-toks [] all = λ k d h. absurd (omega arith)
all-toks (token ∷ tokens) all =
    All-cons IsToken token.tok (toks_of tokens) (all 0 token (omega arith)) (all-toks tokens (All-tail HasToken token tokens all))

length-toks : (tokens : List Token) → length (toks_of tokens) ≡ length tokens
length-toks [] = refl
length-toks (token ∷ tokens) = omega (arith, length-toks tokens)

pub record Whole (tokens : List Token) (model : Model) : Type 0 where
  pub shaped : IsShaped model
  pub spells : tokens_of model ≡ toks_of tokens

pub whole : (tokens : List Token) (start after : Spot) (decls : List Decl) → start ≡ (0, toks_of tokens) → All HasToken tokens → length tokens < 2 ^ 32 → TookAll (joined_by decl_tokens) (all_by decl_span) (AllOk is_decl) start after decls → after.1 ≡ [] → Whole tokens (record { decls = decls })
whole tokens start after decls starts all few took end =
    let model : Model = record { decls = decls } in
    let First : Spot → Type 0 = λ own. TookAll (joined_by decl_tokens) (all_by decl_span) (AllOk is_decl) own after decls in
    let took : First (0, toks_of tokens) = subst First starts took in
    let spells : tokens_of model ≡ toks_of tokens = sym (took.spells ∙ (ap (λ (own : Tokens). joined_by decl_tokens decls ++ own) end ∙ append-nil (joined_by decl_tokens decls))) in
    let same : after.0 ≡ length (tokens_of model) = omega (arith, took.moved, ap length end, ap length spells) in
    record {
      shaped = record {
        levels = took.good;
        tokens = let P : Tokens → Type 0 = All IsToken in subst P (sym spells) (all-toks tokens all);
        few = omega (arith, ap length spells, length-toks tokens, few);
        places = took.placed ∙ ap Some same;
      };
      spells = spells;
    }
