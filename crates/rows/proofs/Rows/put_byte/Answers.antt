-- One byte stands over the one that was there.
use Rattle.std.proofs.Common.{refl, arith}
use lib.ListN.{length-set}
use Rattle.rows.proofs.Written.{written_one}
use Rattle.rows.proofs.Rows.put_byte.Goals as goal

pub returns : goal.returns
returns c =
    record {
      same_lent = refl;
      same_length = length-set _ _ _;
      ends = refl;
      holds = written_one _ _ _ (omega arith);
    }
