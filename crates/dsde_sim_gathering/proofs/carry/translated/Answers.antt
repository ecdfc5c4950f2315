use Rattle.std.proofs.Common.{◌≡◌, Option, sym, subst}
use Rattle.dsde_values.specs.declared.value.Value.{Value}
use Rattle.dsde_sound_structures.specs.given.sound_expressions.Conditions.{CanTranslate, Translated}
use Rattle.dsde_sound_structures.specs.given.system.Program.{system}
use Rattle.dsde_sim_gathering.proofs.Adding.{if-ok}
use Rattle.dsde_sim_gathering.proofs.carry.translated.Goals as goal

pub translate-requires : goal.translate-requires
translate-requires c =
    subst (λ (key : Option Value). CanTranslate c.args.program.now c.args.via.now.id.0 key c.args.value.now) (sym c.as_ref.ensures.value)
    (c.may_translate.ensures c.args.program.now c.args.via.now c.requires.from c.requires.to c.args.value.now c.requires.takes c.requires.typed)

pub returns : goal.returns
returns c =
    if-ok c.translate.result
    (λ held. Translated c.args.program.now c.args.via.now.id.0 c.args.via.now.key c.args.value.now held)
    (λ made. made ≡ (system c.args.program.now).translate c.args.via.now c.args.value.now)
    (λ held came. sym (c.translates_exactly.ensures c.args.program.now c.args.via.now c.requires.from c.requires.to c.args.value.now held c.requires.takes c.requires.typed came))
    (rw c.as_ref.ensures.value at c.translate.ensures.means)
