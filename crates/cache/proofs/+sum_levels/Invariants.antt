use Rattle.rules.specs.Bytes.{record_count}
use Rattle.cache.proofs.+sum_levels.Given as goal

abbrev pub decreases-sum_levels : goal.decreases-sum_levels
decreases-sum_levels l = record_count l.part.now
