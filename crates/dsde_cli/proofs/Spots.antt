-- The line and the column of each place of a text are those that are told place by place.
use Rattle.std.proofs.Common.{◌≡◌, ℕ, ◌+◌, ◌≤◌, List, length, Result, Ok, Err, sym, ap, ◌∙◌, arith}
use Rattle.std.specs.Prelude.{Some, IfOk, map, slice_get}
use Rattle.std.specs.List.{range_with_len}
use Rattle.std.proofs.lemmas.List.{same_lists}
use Rattle.std.proofs.lemmas.List.FromFn.{get_or-map-range_with_len, length-map-range_with_len}
use Rattle.std.proofs.lemmas.Option.{get_or_from_slice_get}
use Rattle.dsde_syntax.specs.declared.decl.Model.{Model}
use Rattle.dsde_syntax.specs.declared.token.Token.{Token}
use Rattle.dsde_lexer.specs.Lines.{place_of}
use Rattle.dsde_lexer.specs.Tokens.{tokens}
use Rattle.dsde_sound_runs.specs.given.run_meaning.Run.{Spots}
use Rattle.dsde_run_free.specs.given.run.Run.{Running, running}
use Rattle.dsde_cli_status.specs.given.cli_verdict.Verdict.{Accepts}
use Rattle.dsde_cli.specs.Causes.{Runs, spots_in, spots_of}

pub same_spots : (bytes : List ℕ) (cut : List Token) (spots : Spots) → tokens bytes ≡ Ok cut → length spots ≡ length cut + 1 →
    ((at : ℕ) → at ≤ length cut → slice_get spots at ≡ Some (place_of bytes cut at)) → spots ≡ spots_of bytes
same_spots bytes cut spots lexed many each =
    same_lists spots (map (place_of bytes cut) (range_with_len 0 (length cut + 1)))
    (many ∙ sym (length-map-range_with_len (place_of bytes cut) 0 (length cut + 1)))
    (λ k d less. get_or_from_slice_get spots k (place_of bytes cut k) d (each k (omega arith))
    ∙ sym (get_or-map-range_with_len (place_of bytes cut) 0 (length cut + 1) k k d (omega arith) (omega arith)))
    ∙ ap (spots_in bytes) (sym lexed)

-- the places that were made of a text that was cut
pub if_spots : {E : Type 0} → (bytes : List ℕ) (cut : List Token) (result : Result Spots E) → tokens bytes ≡ Ok cut →
    IfOk result (λ spots. length spots ≡ length cut + 1) → IfOk result (λ spots. (at : ℕ) → at ≤ length cut → slice_get spots at ≡ Some (place_of bytes cut at)) →
    IfOk result (λ spots. spots ≡ spots_of bytes)
if_spots bytes cut (Ok spots) lexed many each = same_spots bytes cut spots lexed many each
if_spots bytes cut (Err error) lexed many each = tt

-- what runs of a text is the model that it is accepted with, and its places
pub one_running : (bytes : List ℕ) (model : Model) (places : Spots) → ((other : Model) → Accepts bytes other → other ≡ model) → places ≡ spots_of bytes →
    (other : Running) → Runs bytes other → other ≡ running model places
one_running bytes model places only placed other runs =
    ap (λ its. running its other.spots) (only other.model runs.accepts) ∙ ap (running model) (runs.spots ∙ sym placed)
