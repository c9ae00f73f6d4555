use Rattle.fix_base.proofs.FramingLemmas.{front_frames}
use Rattle.fix_base.proofs.stream_laws.frames_of_a_front.Goals as goal

pub returns : goal.returns
returns c = λ written bytes items rest each front takes. front_frames written bytes items rest (record { each = each }) front takes
