-- `catches::catch_graph` meets its contract. Assumes nothing.
use Rattle.catches.proofs.Words.{detections-more}
use Rattle.catches.proofs.Steps.{caught-word, graph-word}
use Rattle.catches.proofs.catch_graph.Goals as goal

pub returns : goal.returns
returns c =
    λ x p s.
    let e = c.is_altering-alters.ensures x p s in
    record {
      flat = e.1;
      detections = detections-more c.requires.0.ready.shape c.requires.2 s.detections (c.catch_nodes.ensures x p e.0) c.put.ensures
          (graph-word c.requires.0.ready p c.requires.2 e.0 c.get-v.ensures (caught-word _ _ c.caught_whole-whole.ensures c.unwrap_or.ensures));
    }
