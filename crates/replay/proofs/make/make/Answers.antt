use Rattle.std.proofs.Common.{w64, rules}
use Rattle.std.proofs.lemmas.Int.{to_z-of_z}
use Rattle.replay.proofs.Making.{tighten-made, pin-made, release-made, ask-made}
use Rattle.replay.proofs.make.make.Goals as goal

pub returns-in-Relax : goal.returns-in-Relax
returns-in-Relax g c =
    let made = c.relaxed.ensures c.args.brackets.now in
    rw c.in-Relax.is (rw (to_z-of_z w64 c.in-Relax.factor (search rules), to_z-of_z w64 c.in-Relax.walks (search rules)) at made)

pub returns-in-Raise : goal.returns-in-Raise
returns-in-Raise g c =
    let made = c.raised.ensures c.args.brackets.now in
    rw c.in-Raise.is (rw (to_z-of_z w64 c.in-Raise.margin (search rules), to_z-of_z w64 c.in-Raise.walks (search rules)) at made)

pub returns-in-Tighten : goal.returns-in-Tighten
returns-in-Tighten g c =
    let done = c.tighten.ensures in
    rw c.in-Tighten.is (tighten-made (to_z-of_z w64 c.in-Tighten.walks (search rules)) done.answer done.grid done.study)

pub returns-in-Pin : goal.returns-in-Pin
returns-in-Pin g c =
    rw c.in-Pin.is (pin-made (to_z-of_z w64 c.in-Pin.temperature (search rules)) c.pin.ensures.answer c.pin.ensures.study)

pub returns-in-Release : goal.returns-in-Release
returns-in-Release g c = rw c.in-Release.is (release-made c.release.ensures.answer c.release.ensures.study)

pub returns-in-Bracket : goal.returns-in-Bracket
returns-in-Bracket g c = rw c.in-Bracket.is (ask-made c.bracket.ensures)
