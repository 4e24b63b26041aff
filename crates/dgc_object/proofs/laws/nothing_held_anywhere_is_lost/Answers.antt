use Rattle.dgc_object.proofs.AllClientsLemmas.{kept-client, kept-frame, kept-own}
use Rattle.dgc_object.proofs.laws.nothing_held_anywhere_is_lost.Goals as goal

pub returns : goal.returns
returns c = record { clients = kept-client; frames = kept-frame; own = kept-own }
