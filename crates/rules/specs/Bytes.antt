-- How numbers, records, the gauge and the lines lie in lent bytes. Sizes and offsets stand here and nowhere else.
use Rattle.std.specs.Prelude.{ℕ, ◌+◌, ◌*◌, ◌/◌, ◌%◌, ◌<◌, List, ◌++◌, length, get_or, take, drop, set}
use Rattle.rules.specs.declared.Record.{Record}
use Rattle.rules.specs.declared.Gauge.{Gauge}

-- every number of a list is a byte, as are all that a call is lent
pub record IsBytes (l : List ℕ) : Type 0 where
  pub below : (i : ℕ) → get_or l i 0 < 256

-- | 64-bit unsigned numbers, least significant byte first
unfoldable pub get64 : List ℕ → ℕ → ℕ
get64 bytes at =
    get_or bytes at 0
    + get_or bytes (at + 1) 0 * 256
    + get_or bytes (at + 2) 0 * 65536
    + get_or bytes (at + 3) 0 * 16777216
    + get_or bytes (at + 4) 0 * 4294967296
    + get_or bytes (at + 5) 0 * 1099511627776
    + get_or bytes (at + 6) 0 * 281474976710656
    + get_or bytes (at + 7) 0 * 72057594037927936

unfoldable pub put64 : List ℕ → ℕ → ℕ → List ℕ
put64 bytes at n =
    set
    (set
    (set
    (set
    (set
    (set
    (set
    (set bytes at (n % 256))
    (at + 1) (n / 256 % 256))
    (at + 2) (n / 65536 % 256))
    (at + 3) (n / 16777216 % 256))
    (at + 4) (n / 4294967296 % 256))
    (at + 5) (n / 1099511627776 % 256))
    (at + 6) (n / 281474976710656 % 256))
    (at + 7) (n / 72057594037927936 % 256)

-- | a number in 8 bytes in the same byte order
abbrev pub number_size : ℕ
number_size = 8

-- ---- the table
-- | The table is lent bytes: K records .., no header. .. Records gain a fifth number, the ticket, and become 40 bytes (document 02)
abbrev pub record_size : ℕ
record_size = 40

-- where its numbers lie in it, after the key
abbrev pub heat_place : ℕ
heat_place = 8

abbrev pub slack_place : ℕ
slack_place = 16

abbrev pub state_place : ℕ
state_place = 24

abbrev pub ticket_place : ℕ
ticket_place = 32

-- | 64-bit unsigned numbers, least significant byte first: key, heat, slack, state. .. a fifth number, the ticket
unfoldable pub record_at : List ℕ → ℕ → Record
record_at table i =
    record {
      key = get64 table (record_size * i);
      heat = get64 table (record_size * i + heat_place);
      slack = get64 table (record_size * i + slack_place);
      state = get64 table (record_size * i + state_place);
      ticket = get64 table (record_size * i + ticket_place);
    }

unfoldable pub put_record : List ℕ → ℕ → Record → List ℕ
put_record table i r =
    put64
    (put64
    (put64
    (put64
    (put64 table (record_size * i) r.key)
    (record_size * i + heat_place) r.heat)
    (record_size * i + slack_place) r.slack)
    (record_size * i + state_place) r.state)
    (record_size * i + ticket_place) r.ticket

-- | K
unfoldable pub record_count : List ℕ → ℕ
record_count table = length table / record_size

-- ---- the lines
-- | The lines are lent bytes: C lines of 64 bytes, numbered from 0
abbrev pub line_size : ℕ
line_size = 64

unfoldable pub line_at : List ℕ → ℕ → List ℕ
line_at lines n = take line_size (drop (line_size * n) lines)

unfoldable pub put_line : List ℕ → ℕ → List ℕ → List ℕ
put_line lines n picture = take (line_size * n) lines ++ (picture ++ drop line_size (drop (line_size * n) lines))

-- | C
unfoldable pub line_count : List ℕ → ℕ
line_count lines = length lines / line_size

-- ---- the gauge of a C host
-- | lends the gauge as .. bytes, total first, in the same byte order. .. a third number, the serial, and becomes 24 bytes (document 02)
abbrev pub gauge_size : ℕ
gauge_size = 24

-- where its second and third numbers lie
abbrev pub ceiling_place : ℕ
ceiling_place = 8

abbrev pub serial_place : ℕ
serial_place = 16

unfoldable pub gauge_at : List ℕ → Gauge
gauge_at bytes = record { total = get64 bytes 0; ceiling = get64 bytes ceiling_place; serial = get64 bytes serial_place }

unfoldable pub put_gauge : List ℕ → Gauge → List ℕ
put_gauge bytes g = put64 (put64 (put64 bytes 0 g.total) ceiling_place g.ceiling) serial_place g.serial
