use Rattle.sp_state.proofs.space_state.SpaceState.copy.Goals as goal

pub returns-clause-stands : goal.returns-clause-stands
returns-clause-stands c = λ g s is rest. record {
  id = is.id;
  version = is.version;
  digest = is.digest;
  numbers = is.numbers;
  owner = c.in_ok-copy.ensures g s is.owner;
  living = c.in_ok-copy-2.ensures.copied g s is.living rest.fresh rest.notes;
}
