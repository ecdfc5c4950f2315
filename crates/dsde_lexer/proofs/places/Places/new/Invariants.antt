use Rattle.dsde_lexer.proofs.PlacesLemmas.{HasPlaces}
use Rattle.dsde_lexer.proofs.places.Places.new.Given as goal

abbrev pub invariant-loop-token : goal.invariant-loop-token
invariant-loop-token l = HasPlaces l.bytes l.tokens l.token-index l.spot l.spots
