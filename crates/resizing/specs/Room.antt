-- What a resize asks of the memories, so that each record that is kept has a place and a line in the target, its picture is there and each
-- ticket fits 64 bits. Every pair that passes the tests has it.
use Rattle.std.specs.Prelude.{ℕ, ◌+◌, ◌*◌, ◌^◌, ◌≤◌, ◌<◌, ◌≡◌, true, length}
use Rattle.rules.specs.declared.Record.{Record}
use Rattle.rules.specs.Pass.{count_of}
use Rattle.rules.specs.Bytes.{record_size}
use Rattle.rules.specs.Table.{Memory, is_tracked, is_lined, line_of, places, size, line_total}
use Rattle.rules.specs.Calls.{most_records}
use Rattle.resizing.specs.Resize.{kept}

-- Of n records f, with so many lines, and so many records and lines in the target.
pub record PackFits (f : ℕ → Record) (n lines to_records to_lines : ℕ) : Type 0 where
  pub few : n ≤ most_records
  pub to_few : to_lines ≤ most_records
  pub tracked : count_of is_tracked f n ≤ to_records
  pub lined : count_of is_lined f n ≤ to_lines
  pub line : (i : ℕ) → i < n → is_lined (f i) ≡ true → line_of (f i) < lines

-- Of a source and a target: the copy of the table, what is kept of it in the target, and the tickets.
pub record ResizeFits (source target : Memory) : Type 0 where
  pub copy : length source.table ≤ record_size * most_records
  pub packed : PackFits (places (kept (size target) (line_total target) source)) (size (kept (size target) (line_total target) source)) (line_total source) (size target) (line_total target)
  pub tickets : (kept (size target) (line_total target) source).gauge.serial + line_total target < 2 ^ 64
