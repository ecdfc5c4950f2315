use Rattle.std.proofs.Common.{◌≡◌, Option, sym, subst}
use Rattle.dsde_values.specs.declared.value.Value.{Value}
use Rattle.dsde_core_moves.specs.given.sound_expressions.Conditions.{CanTranslate, Translated}
use Rattle.dsde_core_moves.specs.given.eval.Translations.{HasTargetType}
use Rattle.dsde_core_moves.specs.given.system.Program.{system}
use Rattle.dsde_core_parcels.specs.Parcels.{KeepsTypes}
use Rattle.dsde_core_parcels.proofs.Translating.{if-ok, keeps-types}
use Rattle.dsde_core_parcels.proofs.along.translated.Goals as goal

pub translate-requires : goal.translate-requires
translate-requires c =
    subst (λ (key : Option Value). CanTranslate c.args.program.now c.args.via.now.id.0 key c.args.value.now) (sym c.as_ref.ensures.value)
    (c.may_translate.ensures c.args.program.now c.args.via.now c.requires.from c.requires.to c.args.value.now c.requires.takes c.requires.typed)

pub returns-clause-made : goal.returns-clause-made
returns-clause-made c =
    if-ok c.translate.result
    (λ held. Translated c.args.program.now c.args.via.now.id.0 c.args.via.now.key c.args.value.now held)
    (λ made. made ≡ (system c.args.program.now).translate c.args.via.now c.args.value.now)
    (λ held came. sym (c.translates_exactly.ensures c.args.program.now c.args.via.now c.requires.from c.requires.to c.args.value.now held c.requires.takes c.requires.typed came))
    (rw c.as_ref.ensures.value at c.translate.ensures.means)

pub returns-clause-typed : goal.returns-clause-typed
returns-clause-typed c =
    if-ok c.translate.result
    (λ held. HasTargetType c.args.program.now c.args.via.now.id.0 c.args.via.now.key c.args.value.now held)
    (KeepsTypes c.args.program.now c.args.via.now c.args.value.now)
    (λ held has. keeps-types c.args.program.now c.args.via.now c.args.value.now held has)
    (rw c.as_ref.ensures.value at c.translate.ensures.typed)
