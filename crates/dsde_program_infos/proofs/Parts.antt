-- What a model declares, part by part.
use Rattle.std.proofs.Common.{◌≡◌, ℕ, Bool, List}
use Rattle.dsde_values.specs.declared.types.Field.{Field}
use Rattle.dsde_language.specs.declared.info.Info.{Info}

pub same_info : {name own_name : List ℕ} (at : ℕ) (network : Bool) {params own_params ins own_ins outs own_outs boss_ins own_boss_ins boss_outs own_boss_outs states own_states : List Field} → name ≡ own_name → params ≡ own_params → ins ≡ own_ins → outs ≡ own_outs → boss_ins ≡ own_boss_ins → boss_outs ≡ own_boss_outs → states ≡ own_states → ◌≡◌ {A = Info} (record { name = name; at = at; network = network; params = params; ins = ins; outs = outs; boss_ins = boss_ins; boss_outs = boss_outs; states = states }) (record { name = own_name; at = at; network = network; params = own_params; ins = own_ins; outs = own_outs; boss_ins = own_boss_ins; boss_outs = own_boss_outs; states = own_states })
same_info at network name params ins outs boss_ins boss_outs states = cc
