mod StmtLemmas
