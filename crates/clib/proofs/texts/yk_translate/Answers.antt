-- `texts::yk_translate` meets its contract: it packs what the library answers.
-- Assumes nothing.
use Rattle.clib.proofs.Within.{text_room}
use Rattle.clib.proofs.texts.yk_translate.Goals as goal

pub of_count-requires : goal.of_count-requires
of_count-requires c = text_room c.translate-length.ensures
