use Rattle.byte_codec.proofs.leb128.+leb_front.Given as goal

abbrev pub decreases-leb_front : goal.decreases-leb_front
decreases-leb_front l = l.room
