-- Lines and columns of places.
use Rattle.std.proofs.Common.{◌≡◌, ℕ, ◌+◌, List, length, sym, ap, subst, ◌∙◌, arith}
use Rattle.std.specs.Prelude.{◌<◌, count_by, take}
use Rattle.std.specs.List.{suffix_len}
use Rattle.std.proofs.lemmas.List.FromFn.{get_or-map-range_with_len}
use Rattle.std.proofs.lemmas.List.{length-map}
use Rattle.std.proofs.lemmas.Option.{unwrap_or-slice_get}
use Rattle.dsde_syntax.specs.declared.decl.Model.{Model}
use Rattle.dsde_syntax.specs.declared.token.Token.{Token}
use Rattle.dsde_syntax.specs.Grammar.{tokens_of}
use Rattle.dsde_lexer.specs.Lines.{line_of, column_of, offset_of, place_of, ends_line, is_in_line}
use Rattle.dsde_sim_tree.specs.declared.fault.Fault.{Fault}
use Rattle.dsde_run_meaning.specs.Run.{spot_at}
use Rattle.dsde_cli_spots.specs.SpottedRuns as runs
use Rattle.dsde_cli_verdict.specs.declared.refusal.Refusal.TheVariants as refusal
use Rattle.dsde_cli_verdict.specs.Verdict.{place_at, toks_of}
use Rattle.dsde_cli_spots.specs.Spotted.{FaultsAreAtTokens, IsLine, RefusalsHaveLines, spots_of}

-- the line and the column of a byte are counted from 1
line-at : (bytes : List ℕ) (offset line column : ℕ) → place_at bytes offset ≡ (line, column) → IsLine line column
line-at bytes offset line column is =
    let first : line_of bytes offset ≡ line = ap (λ (own : ℕ × ℕ). own.0) is in
    let second : column_of bytes offset ≡ column = ap (λ (own : ℕ × ℕ). own.1) is in
    record {
      line_from = from-one (count_by ends_line (take offset bytes)) line first;
      column_from = from-one (suffix_len is_in_line (take offset bytes)) column second;
    }
  where
    from-one : (count own : ℕ) → 1 + count ≡ own → 0 < own
    from-one count own is = omega arith

-- those of a place are those of its byte
place-line : (bytes : List ℕ) (cut : List Token) (at line column : ℕ) → place_of bytes cut at ≡ (line, column) → IsLine line column
place-line bytes cut at line column is = line-at bytes (offset_of bytes cut at) line column is

pub refusals-have-lines : RefusalsHaveLines
refusals-have-lines bytes refusal.BadByte line column own = line-at bytes own.offset line column own.place
refusals-have-lines bytes refusal.BadNumber line column own = line-at bytes own.offset line column own.place
refusals-have-lines bytes refusal.Syntax line column own = place-line bytes own.cut own.at line column own.place
refusals-have-lines bytes refusal.Nested line column own = place-line bytes own.cut own.at line column own.place
refusals-have-lines bytes (refusal.Check kind) line column own = place-line bytes own.cut own.at line column own.place

-- the line and the column of a token in the list of all
spot-of : (bytes : List ℕ) (cut : List Token) (at : ℕ) → at < length cut → spot_at (spots_of bytes cut) at ≡ place_of bytes cut at
spot-of bytes cut at less =
    unwrap_or-slice_get (spots_of bytes cut) at (0, 0)
    ∙ get_or-map-range_with_len (place_of bytes cut) 0 (length cut + 1) at at (0, 0) (omega arith) (omega arith)

told-at : (bytes : List ℕ) (cut : List Token) (model : Model) → tokens_of model ≡ toks_of cut → (fault : Fault) → runs.IsAtToken (length (tokens_of model)) (spots_of bytes cut) fault
    → (at : ℕ) × ((at < length cut) × (place_of bytes cut at ≡ (fault.line, fault.column)))
told-at bytes cut model written fault own =
    let many : length (tokens_of model) ≡ length cut = ap length written ∙ length-map cut (λ (token : Token). token.tok) in
    let less : own.at < length cut = subst (λ (n : ℕ). own.at < n) many own.token in
    (own.at, (less, sym (spot-of bytes cut own.at less) ∙ own.place))

pub faults-are-at-tokens : runs.FaultsAreAtTokens → FaultsAreAtTokens
faults-are-at-tokens law bytes model accepts records turns fault is =
    let gives = accepts.sound.gives in
    let own = told-at bytes accepts.cut model gives.written fault (law model (spots_of bytes accepts.cut) records turns fault gives.shaped is) in
    (record { cut = accepts.cut; lexed = accepts.lexed; at = own.0; token = own.1.0; place = own.1.1 }, place-line bytes accepts.cut own.0 fault.line fault.column own.1.1)
