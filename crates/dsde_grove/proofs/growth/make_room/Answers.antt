use Rattle.std.proofs.Common.{◌≡◌, sym, ap, ◌∙◌}
use Rattle.std.specs.Option.{option_copied_mut}
use Rattle.dsde_bank.specs.Bank.{found}
use Rattle.dsde_grove.specs.Inside.{ChangesKids}
use Rattle.dsde_grove.specs.Part.{Puts}
use Rattle.dsde_grove.proofs.Trees.{changes-with_value, changes-same, changes-base, some_of, on_err, ok_then, err_then}
use Rattle.dsde_grove.proofs.growth.make_room.Goals as goal

pub returns-in_err-reserve-clause-kept : goal.returns-in_err-reserve-clause-kept
returns-in_err-reserve-clause-kept g c =
    let live = some_of (found c.args.bank.now c.args.parent) c.requires in
    on_err (ChangesKids c.args.bank.now c.reserve.new.self c.args.parent (λ kids left. left ≡ kids)) _ (changes-same c.args.bank.now c.reserve.new.self c.args.parent live.0 live.1 (ap (λ b. b.held) c.reserve.ensures.kept) (ap (λ b. b.next_birth) c.reserve.ensures.kept))

pub returns-in_err-parts-clause-kept : goal.returns-in_err-parts-clause-kept
returns-in_err-parts-clause-kept g c =
    let live = some_of (found c.args.bank.now c.args.parent) c.requires in
    on_err (ChangesKids c.args.bank.now c.reserve.new.self c.args.parent (λ kids left. left ≡ kids)) _ (changes-same c.args.bank.now c.reserve.new.self c.args.parent live.0 live.1 (ap (λ b. b.held) c.reserve.ensures.kept) (ap (λ b. b.next_birth) c.reserve.ensures.kept))

pub returns-in_err-reserve-2-clause-kept : goal.returns-in_err-reserve-2-clause-kept
returns-in_err-reserve-2-clause-kept g c =
    let live = some_of (found c.args.bank.now c.args.parent) c.requires in
    on_err (ChangesKids c.args.bank.now c.reserve.new.self c.args.parent (λ kids left. left ≡ kids)) _ (changes-same c.args.bank.now c.reserve.new.self c.args.parent live.0 live.1 (ap (λ b. b.held) c.reserve.ensures.kept) (ap (λ b. b.next_birth) c.reserve.ensures.kept))

pub returns-clause-placed : goal.returns-clause-placed
returns-clause-placed g c =
    ok_then c.put.result
    (λ put. changes-base c.args.bank.now c.reserve.new.self _ c.args.parent (Puts record { name = c.args.name; handle = c.args.parent }) (ap (λ b. b.held) c.reserve.ensures.kept) (ap (λ b. b.next_birth) c.reserve.ensures.kept)
    (changes-with_value c.reserve.new.self c.args.parent c.unwrap-part.result.now c.put.new.self (Puts record { name = c.args.name; handle = c.args.parent }) (sym c.get_mut.ensures.value ∙ ap option_copied_mut c.unwrap-part.ensures) put))
    c.put.ensures.put

pub returns-clause-kept : goal.returns-clause-kept
returns-clause-kept g c =
    err_then c.put.result
    (λ same. changes-base c.args.bank.now c.reserve.new.self _ c.args.parent (λ kids left. left ≡ kids) (ap (λ b. b.held) c.reserve.ensures.kept) (ap (λ b. b.next_birth) c.reserve.ensures.kept)
    (changes-with_value c.reserve.new.self c.args.parent c.unwrap-part.result.now c.put.new.self (λ kids left. left ≡ kids) (sym c.get_mut.ensures.value ∙ ap option_copied_mut c.unwrap-part.ensures) same))
    c.put.ensures.kept
