use Rattle.gameid_core.proofs.Reading.{exactly}
use Rattle.gameid_core.proofs.laws.first_fault.Goals as goal

pub returns : goal.returns
returns c = record {
  pattern = λ size at description f. exactly _ _ f at _ _;
  solo = λ n at description f. exactly _ _ f at _ _;
  lights = λ all at description f. exactly _ _ f at _ _;
  tents = λ size at description f. exactly _ _ f at _ _;
}
