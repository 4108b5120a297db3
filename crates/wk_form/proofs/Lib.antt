mod FindLemmas
