use Rattle.std.proofs.Common.{◌≢◌, Ok, Err, inl, rules}
use Rattle.dsde_cli_verdict.specs.declared.refusal.ReadModel.TheVariants as read_model
use Rattle.dsde_cli_verdict.specs.Verdict.{Accepts, IsVerdict}
use Rattle.dsde_cli_verdict.proofs.VerdictLemmas.{only_refusal}
use Rattle.dsde_cli_verdict.proofs.read.read_model.Goals as goal

pub returns-in-Err-clause-only : goal.returns-in-Err-clause-only
returns-in-Err-clause-only c = only_refusal c.one_verdict.ensures c.args.bytes.now c.unlexed.result c.unlexed.ensures

pub returns-in-Ok-read_tokens-clause-only : goal.returns-in-Ok-read_tokens-clause-only
returns-in-Ok-read_tokens-clause-only c =
    let model = c.in-Ok-read_tokens.model in
    let accepts : Accepts c.args.bytes.now c.in-Ok-read_tokens.model = search rules in
    λ verdict other. inl (c.one_verdict.ensures c.args.bytes.now (Ok model) verdict accepts other)

pub returns-in-Err-At-clause-only : goal.returns-in-Err-At-clause-only
returns-in-Err-At-clause-only c =
    let is : c.at_token.result ≢ read_model.Memory → IsVerdict c.args.bytes.now (Err c.at_token.result) = search rules in
    only_refusal c.one_verdict.ensures c.args.bytes.now c.at_token.result is
