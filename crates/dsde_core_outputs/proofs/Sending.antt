-- What the root sends, port by port.
use Rattle.std.proofs.Common.{◌≡◌, ℕ, zero, suc, ◌+◌, ◌<◌, List, [], ◌∷◌, map, Result, Ok, Err, refl, sym, ap, ◌∙◌, arith}
use Rattle.std.specs.Prelude.{slice_index_or}
use Rattle.std.specs.List.{range_with_len}
use Rattle.dsde_values.specs.declared.path.Path.{Path}
use Rattle.dsde_values.specs.declared.value.Value.{Value}
use Rattle.dsde_sim_tree.specs.given.formalism.System.{Ports, System}
use Rattle.dsde_sim_tree.specs.given.structure.plan_Part_TheVariants as part
use Rattle.dsde_sim_tree.specs.given.structure.sources_Sources.{Sources}
use Rattle.dsde_sim_tree.specs.given.structure.Gather.{gather, gathered}
use Rattle.dsde_sim_tree.specs.declared.fault.TurnEnd.{TurnEnd}
use Rattle.dsde_sim_tree.specs.declared.sim.Net.{Net}
use Rattle.dsde_sim_tree.specs.declared.sim.Sim.{Sim}
use Rattle.dsde_sim_tree.specs.declared.sim.Sim.TheFolds.{fold-roll-Net, fold-roll-Sim}
use Rattle.dsde_sim_tree.specs.declared.sim.Sim.TheOpen as layer
use Rattle.dsde_sim_tree.specs.declared.sim.Sim.TheVariants as sim
use Rattle.dsde_sim_tree.specs.declared.sim.Sim.TheViews.{out-Net, roll-out-Net, rolls-Net}
use Rattle.dsde_sim_tree.specs.Output.{◌>>=◌, kid_output, output, output_kid, output_net, output_of_net, output_step, sources_of, Answer, KidAnswer}

-- where two steps came to a value the first did
first-ok : {A B : Type 0} (result : Result A TurnEnd) (next : A → Result B TurnEnd) (value : B) → (result >>= next) ≡ Ok value → (first : A) × (result ≡ Ok first) × (next first ≡ Ok value)
first-ok (Ok first) next value is = (first, refl, is)
first-ok (Err end) next value is = absurd (let wrong : Err end ≡ Ok value = is in cc)

one-ok : (one other : Ports) → (let end : Result Ports TurnEnd = Ok one in end) ≡ Ok other → other ≡ one
one-ok one other is = cc

module _ (system : System) (net : Net) (path : Path) (time : ℕ) where
  abbrev outs : ℕ
  outs = (system.network (out-Net net).model (out-Net net).args).outs

  abbrev sends : Sources → Ports
  sends sources = gathered system.translate (out-Net net).links sources part.Net outs

  output-Net : output system (sim.Net net) path time ≡ (sources_of system (map (kid_output system) (out-Net net).kids) (out-Net net).boss path time [] >>= (λ sources. Ok (sends sources)))
  output-Net =
      ap (λ (tree : Sim). output system tree path time) (sym (rolls-Net net))
      ∙ ap (λ (answer : Answer). answer path time) (fold-roll-Sim Answer KidAnswer Answer (output_step system) output_kid (output_net system) (layer.Net net))
      ∙ ap (λ (n : Net). output_of_net system n path time) (sym (roll-out-Net net))
      ∙ ap (λ (answer : Answer). answer path time) (fold-roll-Net Answer KidAnswer Answer (output_step system) output_kid (output_net system) (out-Net net))

  -- as many lists as there are ports
  sent-ports : (sent : Ports) → output system (sim.Net net) path time ≡ Ok sent → (sources : Sources) × (sent ≡ map (λ port. gather system.translate (out-Net net).links sources (record { part = part.Net; port = port })) (range_with_len 0 outs))
  sent-ports sent is =
      let known = first-ok (sources_of system (map (kid_output system) (out-Net net).kids) (out-Net net).boss path time []) (λ sources. Ok (sends sources)) sent (sym output-Net ∙ is) in
      (known.0, one-ok (sends known.0) sent known.2)

module _ (f g : ℕ → List Value) where
  item-of : (many first k : ℕ) → k < many → slice_index_or (map f (range_with_len first many)) k [] ≡ f (k + first)
  item-of zero first k within = absurd (omega (arith, within))
  item-of (suc many) first zero within = (let same : first ≡ 0 + first = omega arith in ap f same)
  item-of (suc many) first (suc k) within = item-of many (first + 1) k (omega (arith, within)) ∙ (let same : k + (first + 1) ≡ suc k + first = omega arith in ap f same)

  same-items : (many first : ℕ) → ((k : ℕ) → k < many → f (k + first) ≡ g (k + first)) → map f (range_with_len first many) ≡ map g (range_with_len first many)
  same-items zero first same = refl
  same-items (suc many) first same =
      let none : first ≡ 0 + first = omega arith in
      λ i. (ap f none ∙ same 0 (omega arith) ∙ sym (ap g none)) i ∷ same-items many (first + 1) (λ k within. (let is : k + (first + 1) ≡ suc k + first = omega arith in ap f is ∙ same (suc k) (omega (arith, within)) ∙ sym (ap g is))) i

  ports-are : (many : ℕ) (ports : Ports) → ports ≡ map f (range_with_len 0 many) → ((k : ℕ) → slice_index_or ports k [] ≡ g k) → ports ≡ map g (range_with_len 0 many)
  ports-are many ports is each =
      is ∙ same-items many 0 (λ k within.
      let here : k + 0 ≡ k = omega arith in
      sym (item-of many 0 k within) ∙ ap (λ (own : Ports). slice_index_or own k []) (sym is) ∙ each k ∙ sym (ap g here))

-- what it sends is told port by port
pub sent-is : (system : System) (net : Net) (path : Path) (time : ℕ) (sent : Ports) → output system (sim.Net net) path time ≡ Ok sent → (g : ℕ → List Value) → ((port : ℕ) → slice_index_or sent port [] ≡ g port) →
    sent ≡ map g (range_with_len 0 (system.network (out-Net net).model (out-Net net).args).outs)
sent-is system net path time sent is g each =
    let known = sent-ports system net path time sent is in
    ports-are (λ port. gather system.translate (out-Net net).links known.0 (record { part = part.Net; port = port })) g (system.network (out-Net net).model (out-Net net).args).outs sent known.1 each
