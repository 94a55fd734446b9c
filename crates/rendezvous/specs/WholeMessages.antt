-- A message whose data have all come.
use Rattle.vocabulary.specs.BasicTypes.{size_of}
use Rattle.datatypes.specs.Contents.{values_of}
use Rattle.rendezvous.specs.declared.collection.Collected.{Collected}
use Rattle.rendezvous.specs.Collections.{Collecting}

-- what is handed out: the elements that stand in the bytes
abbrev pub collected_of : Collecting → Collected
collected_of c =
    record { request = c.request; elements = record { basic = c.basic; values = values_of (size_of c.basic) c.bytes } }
