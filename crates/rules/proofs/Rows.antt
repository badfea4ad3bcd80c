-- The thirteen rows of document 01, and the text that they make, are what its sample journal prints: the definitions are run on
-- the journal's bytes. Assumes nothing.
use mathlib.Core.Path.{◌≡◌, refl}
use Rattle.rules.specs.Journal.{digits, decimal, printed, printed_all, journal_run}
use Rattle.rules.specs.Sample.{sample_journal, sample_start, sample_rows, sample_text}
use Rattle.rules.proofs.Computing.{computing}

pub thirteen_rows : (journal_run sample_start sample_journal).rows ≡ sample_rows
unfolding computing
thirteen_rows = refl

pub thirteen_lines : printed_all (journal_run sample_start sample_journal).rows ≡ sample_text
unfolding printed_all printed decimal digits sample_rows sample_text
thirteen_lines = rw thirteen_rows
