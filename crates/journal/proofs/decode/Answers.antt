use Rattle.std.proofs.Common.{◌≡◌, ◌+◌, ◌-◌, ◌≤◌, length, Some, refl, ap, arith, length-drop}
use Rattle.std.proofs.lemmas.List.{take_rest}
use borrow.Author.Tests.{lt-leb, le-ltb}
use Rattle.rules.specs.Journal.{entry_size, entry_at, decoded, picture_place, whole_entry}
use Rattle.rules.specs.declared.Decoded.{Decoded}
use Rattle.journal.proofs.Said.{said_of}
use Rattle.journal.proofs.decode.Goals as goal

pub returns : goal.returns
unfolding entry_at decoded picture_place
returns c =
    let j = c.args.bytes.now in
    let at = c.args.at in
    let cut = rw take_rest at c.in-Some.ensures.cases in
    let whole : c.whole_entry.result ≡ whole_entry j at = c.whole_entry.ensures j at cut.same refl in
    let room : entry_size ≤ length j - at = omega (arith, cut.enough, length-drop at j) in
    let e : decoded (Some c.whole_entry.result) (at + entry_size) ≡ entry_at j at =
    rw (lt-leb (length j) at (omega arith), le-ltb (length j - at) entry_size room, whole) refl in
    (e, said_of _ _ _ (ap (λ (d : Decoded). d.entry) e))
