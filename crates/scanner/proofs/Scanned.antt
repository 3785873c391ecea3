-- What `scan` ensures follows from these.
use Rattle.scanner.proofs.Apart.{in_order_and_apart}
use Rattle.scanner.proofs.Firsts.{long_is_least, sound_is_least}
use Rattle.scanner.proofs.Owners.{each_byte_owned}
use Rattle.scanner.proofs.Parts.{parts_of_the_text}

pub ruleset scanned = (long_is_least, sound_is_least, parts_of_the_text, in_order_and_apart, each_byte_owned)
