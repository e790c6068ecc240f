use Rattle.seg_canon.proofs.RootParts.{node_root, node_root_name, pack_root, pack_root_name}
use Rattle.seg_canon.proofs.parts.entry_of.Goals as goal

pub returns-in-RefNode : goal.returns-in-RefNode
returns-in-RefNode g c = record {
  entry = λ m H some f. node_root c.in-RefNode.is f;
  names = λ m H some f. node_root_name c.args.root c.in-RefNode.is;
}

pub returns-in_default : goal.returns-in_default
returns-in_default g c = record {
  entry = λ m H some f. pack_root c.in_default.not-RefNode some f;
  names = λ m H some f. pack_root_name c.in_default.not-RefNode f;
}
